use Rattle.std.proofs.Common.{vec_items}
use Rattle.vans.proofs.FleetSearch.{LeastBelow}
use Rattle.vans.proofs.vanfleet.VanFleet.cheapest.Given as goal

abbrev pub invariant-loop-van : goal.invariant-loop-van
invariant-loop-van l = LeastBelow (vec_items l.self.rounds) l.stop l.van-counter l.best
