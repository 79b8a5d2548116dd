-- What stays through a call, whatever it answers: the entries stand as a heap, and the room.
use Rattle.std.proofs.Common.{◌≡◌, ◌<◌, ◌∷◌, length, Some, None, Ok, Err, Option, Result, Ordering, ap, arith}
use mathlib.Core.List.{Perm}
use Rattle.std.specs.Cmp.{IsTotalOrder}
use Rattle.stops.specs.declared.refusal.Refusal.{Refusal}
use Rattle.std.specs.declared.cmp.Ord as Ord
use Rattle.std.specs.declared.cmp.PartialEq as PartialEq
use Rattle.std.specs.declared.cmp.PartialOrd as PartialOrd
use Rattle.queue.specs.declared.due.Due.{Due}
use Rattle.queue.specs.declared.queue.Queue.{Queue}
use Rattle.queue.specs.Deadlines.{Left}
use Rattle.queue.specs.Entries.{by_due, DueQueue}
use Rattle.queue.specs.Orders.{Heaped}
use Rattle.queue.specs.Queues.{entries, Added, Taken}

module _ {X : Type 0} {ord : Ord.Ghosts X} {equal : PartialEq.Ghosts X} {partial : PartialOrd.Ghosts X} (R : X → X → Ordering) (p q : Queue X ord equal partial) where
  pub added_heaped : (o : IsTotalOrder R) (x : X) (r : Result (Unit {0}) Refusal) → Added R x p r q → Heaped o (entries p) → Heaped o (entries q)
  added_heaped o x (Ok u) a h = a.1.2 o h
  added_heaped o x (Err e) a h = rw a.2 h

  -- where there is room, the entry is held besides
  pub added_more : (x : X) (r : Result (Unit {0}) Refusal) → Added R x p r q → length (entries p) < p.room → Perm (x ∷ entries p) (entries q)
  added_more x (Ok u) a h = a.1.0
  added_more x (Err e) a h = absurd (omega (arith, a.1))

  pub added_room : (x : X) (r : Result (Unit {0}) Refusal) → Added R x p r q → q.room ≡ p.room
  added_room x (Ok u) a = a.1.1
  added_room x (Err e) a = ap (λ (z : Queue X ord equal partial). z.room) a.2

  pub taken_heaped : (o : IsTotalOrder R) (r : Option X) → Taken R p r q → Heaped o (entries p) → Heaped o (entries q)
  taken_heaped o (Some x) t h = t.2 o h
  taken_heaped o None t h = t.1.2 o

  pub taken_room : (r : Option X) → Taken R p r q → q.room ≡ p.room
  taken_room (Some x) t = t.1
  taken_room None t = t.1.1

pub due_heaped : (p q : DueQueue) (r : Option Due) → Left p r q → Heaped by_due (entries p) → Heaped by_due (entries q)
due_heaped p q (Some x) t h = t.2 by_due h
due_heaped p q None t h = rw t h

pub due_room : (p q : DueQueue) (r : Option Due) → Left p r q → q.room ≡ p.room
due_room p q (Some x) t = t.1
due_room p q None t = ap (λ (z : DueQueue). z.room) t
