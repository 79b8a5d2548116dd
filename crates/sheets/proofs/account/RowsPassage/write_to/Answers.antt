use Rattle.std.proofs.Common.{◌+◌, Err}
use Rattle.std.proofs.lemmas.Result.{err_from_is_err_and}
use Rattle.calls.specs.Records.{record_of}
use Rattle.text.proofs.Growing.{ended, next_added, next_refused, partly}
use Rattle.sheets.specs.Accounts.{row_if, stretch}
use Rattle.sheets.specs.Books.{records}
use Rattle.sheets.proofs.Stretches.{rows_none, rows_step}
use Rattle.sheets.proofs.account.RowsPassage.write_to.Goals as goal

pub returns-in_err-add_number : goal.returns-in_err-add_number
returns-in_err-add_number g c =
    let p = err_from_is_err_and c.from_residual.result c.from_residual.ensures.1 in
    let rows = c.args.self.now in
    let rs = records rows.book.now in
    let n = c.loop-number.number in
    let row = row_if n (record_of rs n) in
    let e = c.in_err-add_number.field-0.0 in
    rw (p.1, p.2) (next_refused c.args.buffer.now (stretch rs rows.from rows.to) c.loop-number.buffer c.add_number.new.text row e (stretch rs n rows.to) (stretch rs (n + 1) rows.to) c.loop-number.invariant (rows_step rs n rows.to c.loop-number-test.true) (partly row c.loop-number.buffer (Err e) c.add_number.new.text c.in_err-add_number.ensures))

pub loop-number-preserved : goal.loop-number-preserved
loop-number-preserved g c =
    let rows = c.args.self.now in
    let rs = records rows.book.now in
    let n = c.loop-number.number in
    next_added c.args.buffer.now (stretch rs rows.from rows.to) c.loop-number.buffer c.add_number.new.text (row_if n (record_of rs n)) tt (stretch rs n rows.to) (stretch rs (n + 1) rows.to) c.loop-number.invariant (rows_step rs n rows.to c.loop-number-test.true) c.in_ok-add_number.ensures

pub returns : goal.returns
returns g c =
    let rows = c.args.self.now in
    let rs = records rows.book.now in
    ended c.args.buffer.now (stretch rs rows.from rows.to) c.loop-number.buffer tt (rw (rows_none rs c.loop-number.number rows.to c.loop-number-test.false) at c.loop-number.invariant)
