-- A plan's queue: all visits come out in order.
use Rattle.std.proofs.Common.{◌≡◌, ℕ, ◌≤◌, List, length, take, Ok, Err, Result, ◌∙◌, sym, arith, subst}
use Rattle.std.specs.Result.{result_unwrap_or}
use mathlib.Core.List.{Perm}
use Rattle.stops.specs.declared.refusal.Refusal.{Refusal}
use Rattle.queue.specs.declared.visit.PlannedVisit.{PlannedVisit}
use Rattle.queue.specs.Entries.{VisitNoLater, VisitQueue, by_visit}
use Rattle.queue.specs.Orders.{Heaped, InOrder}
use Rattle.queue.specs.Plans.{Planned}
use Rattle.queue.specs.Queues.{entries}
use Rattle.sheets.specs.Plans.{in_order, Ordered}
use Rattle.sheets.proofs.Sorting.{in_order_perm, in_order_still}

-- what is taken off stands in order at the front of the list
pub planned_all : (p q : VisitQueue) (old new : List PlannedVisit) (r : Result ℕ Refusal) → Planned p old r q new → Heaped by_visit (entries p) → length (entries p) ≤ length old → take (result_unwrap_or r 0) new ≡ in_order (entries p)
planned_all p q old new (Ok k) t h room = sym (in_order_perm (entries p) (take k new) t.0.1.0 ∙ in_order_still (take k new) (t.1 h))
planned_all p q old new (Err e) t h room = absurd (omega (arith, t.1))

-- and this order is that of a plan
pub planned_ordered : (p q : VisitQueue) (old new : List PlannedVisit) (r : Result ℕ Refusal) → Planned p old r q new → Heaped by_visit (entries p) → length (entries p) ≤ length old → Ordered (entries p)
planned_ordered p q old new (Ok k) t h room =
    let e = planned_all p q old new (Ok k) t h room in
    record { same = subst (Perm (entries p)) e t.0.1.0; sorted = subst (InOrder VisitNoLater) e (t.1 h) }
planned_ordered p q old new (Err e) t h room = absurd (omega (arith, t.1))
