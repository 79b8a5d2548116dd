use Rattle.std.proofs.Common.{◌≡◌, [], Err, vec_items, sym, ap, ◌∙◌, eqb-true, arith}
use Rattle.text.specs.Lines.{lines_left}
use Rattle.commands.specs.Setups.{checked, leading}
use Rattle.commands.proofs.Sections.{list_refused, section_none}
use Rattle.commands.proofs.setup.sheet.reads.read_section.Goals as goal

pub returns-then-is_empty : goal.returns-then-is_empty
returns-then-is_empty g c =
    let none = sym c.in_ok-taken.taken.ok.0 ∙ eqb-true _ _ (sym c.if-is_empty.ensures) in
    let number : c.read_entries.new.left.number ≡ c.args.left.now.number = omega (arith, none, c.in_ok-taken.taken.ok.0, c.in_ok-taken.ensures.rest.0.1) in
    let refused = list_refused _ c.at_line.result _ (c.at_line.ensures ∙ ap (λ n. Err ((15, []), n)) number) in
    record { value = refused.0 ∙ section_none (checked g.T.Entry.MOST g.T.Entry.entry) c.args.left.now.number (leading g.T.Entry.LETTER (lines_left c.args.left.now.lines)) (vec_items c.in_ok-taken.taken) c.in_ok-taken.ensures.value none; rest = refused.1 }
