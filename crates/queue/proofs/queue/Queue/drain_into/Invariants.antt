use Rattle.std.proofs.Common.{take}
use Rattle.queue.proofs.Drained.{TakenOff}
use Rattle.queue.proofs.queue.Queue.drain_into.Given as goal

abbrev pub invariant-loop-place : goal.invariant-loop-place
invariant-loop-place g l = TakenOff g.T.Ord.cmp l.initial.self (take l.place-index l.place-items) l.self
