use Rattle.std.proofs.Common.{◌≡◌, ℕ, false, MatchOption, Option, sym, subst, rules}
use Rattle.std.proofs.lemmas.Iterator.{YieldsList-from_slice}
use Rattle.std.proofs.lemmas.Iterator.Search.{position_from_yields_List}
use Rattle.fleet.specs.Loads.{held, First}
use Rattle.fleet.proofs.Positions.{under, first_at}
use Rattle.fleet.proofs.load.position.Goals as goal

pub returns : goal.returns
returns c =
    let n = c.args.number in
    let l = c.args.load.now in
    let e = position_from_yields_List (under n) _ _ c.position.result c.position.ensures.ran (YieldsList-from_slice l c.iter.ensures.rest) (λ x b q k. search rules) in
    subst (λ (r : Option ℕ). MatchOption r (held n l ≡ false) (First n l)) (sym e) (first_at n l)
