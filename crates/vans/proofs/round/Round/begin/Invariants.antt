use Rattle.vans.proofs.RoundSearch.{Left}
use Rattle.vans.proofs.round.Round.begin.Given as goal

abbrev pub invariant-loop-stop : goal.invariant-loop-stop
invariant-loop-stop l = Left l.self l.stop-index l.leave
