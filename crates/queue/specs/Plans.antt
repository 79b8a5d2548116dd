-- All visits in the order of a plan.
use Rattle.std.specs.Prelude.{ℕ, List, take, Ok, Err, Result}
use Rattle.stops.specs.declared.refusal.Refusal.{Refusal}
use Rattle.queue.specs.contracts.visit.PlannedVisitOrd.TheImpl as visit-ord
use Rattle.queue.specs.declared.visit.PlannedVisit.{PlannedVisit}
use Rattle.queue.specs.Entries.{by_visit, VisitNoLater, VisitQueue}
use Rattle.queue.specs.Orders.{Heaped, InOrder}
use Rattle.queue.specs.Queues.{entries, Drained}

-- The queue is drained into the list, or that is refused; what was put there is in order by minute, van and number.
abbrev pub Planned : VisitQueue → List PlannedVisit → Result ℕ Refusal → VisitQueue → List PlannedVisit → Type 0
Planned p old (Ok k) q new = Drained (visit-ord.ghosts).cmp p old (Ok k) q new × (Heaped by_visit (entries p) → InOrder VisitNoLater (take k new))
Planned p old (Err e) q new = Drained (visit-ord.ghosts).cmp p old (Err e) q new
