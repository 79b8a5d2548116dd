use Rattle.vans.specs.Fleets.{stops_in}
use Rattle.vans.proofs.RoundSearch.{Left, Searched}
use Rattle.vans.proofs.round.Round.cheapest.Given as goal

abbrev pub invariant-loop-i : goal.invariant-loop-i
invariant-loop-i l = Left l.self l.i l.leave × Searched l.self.van (stops_in l.self) l.stop l.i l.best
