use Rattle.std.proofs.Common.{◌<◌, length, Some, vec_items, sym, ap, ◌∙◌, arith}
use Rattle.std.proofs.lemmas.List.{length-map}
use Rattle.vans.specs.declared.round.Round.{Round}
use Rattle.vans.specs.Fleets.{vans_of, rounds_of}
use Rattle.vans.specs.Locating.{begin_here}
use Rattle.vans.specs.Visiting.{not_visited}
use Rattle.vans.proofs.vanfleet.calls.VanFleetRouted.visit.Goals as goal

pub returns : goal.returns
returns c =
    let rs = vec_items c.args.self.now.rounds in
    let at = c.in_ok-found.found in
    let f = c.in_ok-found.ensures in
    let n : at.van < length rs = omega (arith, f.van, length-map rs (λ (r : Round). vec_items r.visits)) in
    ap (λ t. Some (record { van = at.van; minute = t })) (c.begin.ensures ∙ begin_here rs at.van at.position c.index.result.now n c.index.ensures) ∙ sym f.visit

pub returns-in_err-found : goal.returns-in_err-found
returns-in_err-found c = c.from_residual.ensures ∙ sym (not_visited (vans_of c.args.self.now) (rounds_of c.args.self.now) c.args.number 0 c.in_err-found.ensures)
