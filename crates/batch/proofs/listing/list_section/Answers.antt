use Rattle.std.proofs.Common.{ℕ, List, [], ◌∷◌, ◌++◌, length, Err, decimal}
use Rattle.std.proofs.lemmas.Result.{err_from_is_err_and}
use Rattle.text.proofs.Growing.{both_added, first_refused, partly}
use Rattle.batch.specs.Listing.{numbered}
use Rattle.batch.proofs.listing.list_section.Goals as goal

-- the line that counts
abbrev counts : {X : Type 0} → List ℕ → List X → List ℕ
counts kind xs = kind ++ (decimal (length xs) ++ 10 ∷ [])

pub returns-in_err-add_line : goal.returns-in_err-add_line
returns-in_err-add_line g c =
    let p = err_from_is_err_and c.from_residual.result c.from_residual.ensures.1 in
    let first = counts c.args.kind.now c.args.items.now in
    rw (p.1, p.2) (first_refused first (numbered g.T.Listed.line 0 c.args.items.now) c.args.text.now c.add_line.new.self c.in_err-add_line.field-0.0 (partly first c.args.text.now (Err c.in_err-add_line.field-0.0) c.add_line.new.self c.in_err-add_line.ensures))

pub returns : goal.returns
returns g c =
    both_added (counts c.args.kind.now c.args.items.now) (numbered g.T.Listed.line 0 c.args.items.now) c.args.text.now c.add_line.new.self tt c.list_all.result c.list_all.new.text c.in_ok-add_line.ensures c.list_all.ensures
