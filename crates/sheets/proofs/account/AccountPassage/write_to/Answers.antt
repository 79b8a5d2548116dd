use Rattle.std.proofs.Common.{◌+◌, Ok, ap, sym, ◌∙◌, ◌++◌}
use Rattle.text.proofs.Growing.{both_added, partly}
use Rattle.sheets.specs.Accounts.{account_names, stretch}
use Rattle.sheets.specs.Books.{records}
use Rattle.sheets.proofs.Stretches.{joins}
use Rattle.sheets.proofs.account.AccountPassage.write_to.Goals as goal

pub returns : goal.returns
returns g c =
    let rs = records c.args.self.now.book.now in
    let whole = ap (λ k. account_names ++ stretch rs 1 (k + 1)) c.count.ensures.value ∙ (joins rs).whole in
    rw (sym whole) (both_added account_names _ c.args.buffer.now c.write_names.new.text tt _ c.write_rows.new.text (partly account_names c.args.buffer.now (Ok tt) c.write_names.new.text c.in_ok-write_names.ensures) (partly _ c.write_names.new.text _ c.write_rows.new.text c.write_rows.ensures.rows))
