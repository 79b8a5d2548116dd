use Rattle.std.proofs.Common.{◌≡◌, ◌<◌, false, length, vec_items, ◌∙◌, arith}
use Rattle.std.specs.List.{remove}
use Rattle.std.proofs.lemmas.List.{length-map}
use Rattle.std.proofs.lemmas.Option.{MatchOption-at_some}
use Rattle.fleet.specs.Loads.{Load, held}
use Rattle.vans.specs.declared.round.Round.{Round}
use Rattle.vans.specs.Fleets.{vans_of, rounds_of}
use Rattle.vans.specs.Locations.{HeldAt}
use Rattle.vans.specs.Rule.{load_of}
use Rattle.vans.proofs.OneRound.{rounds_set}
use Rattle.vans.proofs.vanfleet.calls.VanFleetFleet.remove.Goals as goal

pub returns-clause-standing : goal.returns-clause-standing
returns-clause-standing c =
    let f = c.args.self.now in
    let rs = vec_items f.rounds in
    let at = c.in_ok-found.found in
    let h = MatchOption-at_some (held c.args.number (load_of (rounds_of f)) ≡ false) (HeldAt c.args.number (vans_of f) (rounds_of f)) at c.in_ok-found.ensures.ok_part c.find.ensures in
    let n : at.van < length rs = omega (arith, h.van, length-map rs (λ (r : Round). vec_items r.visits)) in
    rounds_set (λ (l : Load). remove l at.position) rs at.van c.index_mut.result.now c.remove.new.self n c.index_mut.ensures.value c.remove.ensures.visits ∙ h.rest
