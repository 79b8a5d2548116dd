-- The kinds of entries: their orders, which a derived `Ord` has, and what these say in numbers.
use Rattle.std.specs.Prelude.{◌≡◌, ◌<◌, ◌≤◌, ◌⊎◌}
use Rattle.std.specs.Cmp.{IsTotalOrder, nat_cmp_total, on_total, then_total}
use Rattle.queue.specs.contracts.due.DueOrd.TheImpl as due-ord
use Rattle.queue.specs.contracts.visit.PlannedVisitOrd.TheImpl as visit-ord
use Rattle.queue.specs.contracts.due.DuePartialEq.TheImpl as due-eq
use Rattle.queue.specs.contracts.due.DuePartialOrd.TheImpl as due-part
use Rattle.queue.specs.contracts.visit.PlannedVisitPartialEq.TheImpl as visit-eq
use Rattle.queue.specs.contracts.visit.PlannedVisitPartialOrd.TheImpl as visit-part
use Rattle.queue.specs.declared.due.Due.{Due}
use Rattle.queue.specs.declared.queue.Queue.{Queue}
use Rattle.queue.specs.declared.visit.PlannedVisit.{PlannedVisit}

-- by deadline, then number
abbrev pub by_due : IsTotalOrder (due-ord.ghosts).cmp
by_due = then_total (on_total (λ (d : Due). d.deadline) nat_cmp_total) (on_total (λ (d : Due). d.number) nat_cmp_total)

-- by minute, then van, then number
abbrev pub by_visit : IsTotalOrder (visit-ord.ghosts).cmp
by_visit =
    then_total (on_total (λ (v : PlannedVisit). v.minute) nat_cmp_total)
    (then_total (on_total (λ (v : PlannedVisit). v.van) nat_cmp_total) (on_total (λ (v : PlannedVisit). v.number) nat_cmp_total))

-- the queues of these entries
abbrev pub DueQueue : Type 0
DueQueue = Queue Due due-ord.ghosts due-eq.ghosts due-part.ghosts

abbrev pub VisitQueue : Type 0
VisitQueue = Queue PlannedVisit visit-ord.ghosts visit-eq.ghosts visit-part.ghosts

-- x lapses no later than y
abbrev pub DueNoLater : Due → Due → Type 0
DueNoLater x y = (x.deadline < y.deadline) ⊎ ((x.deadline ≡ y.deadline) × (x.number ≤ y.number))

-- x is visited no later than y
abbrev pub VisitNoLater : PlannedVisit → PlannedVisit → Type 0
VisitNoLater x y = (x.minute < y.minute) ⊎ ((x.minute ≡ y.minute) × ((x.van < y.van) ⊎ ((x.van ≡ y.van) × (x.number ≤ y.number))))
