-- What a queue holds, and what its calls do.
-- That the entries stand as a heap is a premise that an empty queue meets and that every call passes on.
use Rattle.std.specs.Prelude.{◌≡◌, ℕ, ◌<◌, List, [], ◌∷◌, map, length, take, drop, Some, None, Ok, Err, Option, Result, IfOk}
use Rattle.std.specs.declared.alloc.AllocError.{AllocError}
use Rattle.std.specs.declared.cmp.Ordering.{Ordering}
use Rattle.std.specs.BinaryHeap.{heap_items}
use mathlib.Core.List.{Perm}
use Rattle.std.specs.List.{slice_get}
use Rattle.std.specs.Cmp.{IsTotalOrder}
use Rattle.stops.specs.declared.refusal.Refusal.{Refusal}
use Rattle.stops.specs.Refusals.{refused}
use Rattle.std.specs.declared.cmp.Ord as Ord
use Rattle.std.specs.declared.cmp.PartialEq as PartialEq
use Rattle.std.specs.declared.cmp.PartialOrd as PartialOrd
use Rattle.queue.specs.declared.queue.Queue.{Queue}
use Rattle.queue.specs.Orders.{Heaped, FirstOf, InOrder, NotAfter}

module _ {X : Type 0} {ord : Ord.Ghosts X} {equal : PartialEq.Ghosts X} {partial : PartialOrd.Ghosts X} where
  -- the entries that are held; a caller may lean on how often each is there and on which is first
  abbrev pub entries : Queue X ord equal partial → List X
  entries q = map (λ r. r.0) (heap_items q.heap)

  -- the first one
  abbrev pub front : Queue X ord equal partial → Option X
  front q = slice_get (entries q) 0

  module _ (R : X → X → Ordering) where
    -- where the entries of p stood as a heap, those of q do
    abbrev pub Passes : Queue X ord equal partial → Queue X ord equal partial → Type 0
    Passes p q = (o : IsTotalOrder R) → Heaped o (entries p) → Heaped o (entries q)

    -- all entries of q and no others, in order where they stood as a heap
    abbrev pub Sorted : Queue X ord equal partial → List X → Type 0
    Sorted q xs = Perm (entries q) xs × ((o : IsTotalOrder R) → Heaped o (entries q) → InOrder (NotAfter o) xs)

    -- nothing is held, in this room
    abbrev pub Empty : ℕ → Queue X ord equal partial → Type 0
    Empty room q = (entries q ≡ []) × (q.room ≡ room) × ((o : IsTotalOrder R) → Heaped o (entries q))

    -- Reserved: an empty queue. Else memory was wanting.
    abbrev pub Reserved : ℕ → Result (Queue X ord equal partial) AllocError → Type 0
    Reserved room r = IfOk r (Empty room)

    -- x is held besides
    abbrev pub OneMore : X → Queue X ord equal partial → Queue X ord equal partial → Type 0
    OneMore x p q = Perm (x ∷ entries p) (entries q) × (q.room ≡ p.room) × Passes p q

    -- Done: x is held besides. Refused with 18, exactly where the queue is full: it is as it was.
    abbrev pub Added : X → Queue X ord equal partial → Result (Unit {0}) Refusal → Queue X ord equal partial → Type 0
    Added x p (Ok u) q = (length (entries p) < p.room) × OneMore x p q
    Added x p (Err e) q = (refused e ≡ (18, [])) × (length (entries p) ≡ p.room) × (q ≡ p)

    -- Taken: a least entry is held once less. Nothing, exactly where nothing is held.
    abbrev pub Taken : Queue X ord equal partial → Option X → Queue X ord equal partial → Type 0
    Taken p (Some x) q = Perm (entries p) (x ∷ entries q) × (q.room ≡ p.room) × Passes p q × FirstOf R x (entries p)
    Taken p None q = (entries p ≡ []) × Empty p.room q

    -- Done: the entries stand at the front of the list, in order; behind them it is as it was, and the queue is empty.
    -- Refused with 18, exactly where the list is shorter: queue and list are as they were.
    abbrev pub Drained : Queue X ord equal partial → List X → Result ℕ Refusal → Queue X ord equal partial → List X → Type 0
    Drained p old (Ok k) q new = (k ≡ length (entries p)) × Sorted p (take k new) × (drop k new ≡ drop k old) × Empty p.room q
    Drained p old (Err e) q new = (refused e ≡ (18, [])) × (length old < length (entries p)) × (q ≡ p) × (new ≡ old)
