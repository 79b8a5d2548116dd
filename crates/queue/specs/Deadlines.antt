-- Taking entries off whose deadline has come.
use Rattle.std.specs.Prelude.{◌≡◌, ℕ, ◌<◌, ◌≤◌, cond, List, Some, None, Option, nat_le}
use Rattle.std.specs.List.{AllByRecursion}
use Rattle.queue.specs.contracts.due.DueOrd.TheImpl as due-ord
use Rattle.queue.specs.declared.due.Due.{Due}
use Rattle.queue.specs.Entries.{DueNoLater, DueQueue}
use Rattle.queue.specs.Queues.{Taken}

-- an entry, if its deadline has come at this minute
abbrev pub if_due : ℕ → Option Due → Option Due
if_due clock None = None
if_due clock (Some x) = cond (nat_le x.deadline clock) (Some x) None

-- what an entry that is taken leaves; where none is, the queue is as it was
abbrev pub Left : DueQueue → Option Due → DueQueue → Type 0
Left p (Some x) q = Taken (due-ord.ghosts).cmp p (Some x) q
Left p None q = q ≡ p

-- Some: the first of the entries in order, and its deadline has come. None: no deadline of them has come.
abbrev pub FirstDue : ℕ → List Due → Option Due → Type 0
FirstDue clock xs (Some x) = (x.deadline ≤ clock) × AllByRecursion (DueNoLater x) xs
FirstDue clock xs None = AllByRecursion (λ y. clock < y.deadline) xs
