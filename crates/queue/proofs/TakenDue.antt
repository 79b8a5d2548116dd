-- Taking the first entry off if its deadline has come.
use Rattle.std.proofs.Common.{◌≡◌, ℕ, ◌<◌, ◌≤◌, List, [], ◌∷◌, Some, None, Option, sym, refl, subst, ◌∙◌, arith}
use borrow.Author.Tests.{lt-leb}
use Rattle.std.specs.List.{slice_get, AllByRecursion}
use Rattle.std.proofs.ByRecursion.{All-weaker}
use Rattle.std.proofs.lemmas.Option.{none-some, same_Some}
use Rattle.queue.specs.contracts.due.DueOrd.TheImpl as due-ord
use Rattle.queue.specs.declared.due.Due.{Due}
use Rattle.queue.specs.Deadlines.{if_due, FirstDue}
use Rattle.queue.specs.Entries.{by_due, DueNoLater, DueQueue}
use Rattle.queue.specs.Orders.{Heaped, FirstOf}
use Rattle.queue.specs.Queues.{entries, front, Taken}
use Rattle.queue.proofs.Numbers.{due_read}

-- a least entry is no later than any
pub due_first : (x : Due) (xs : List Due) → FirstOf (due-ord.ghosts).cmp x xs → Heaped by_due xs → AllByRecursion (DueNoLater x) xs
due_first x xs f h = All-weaker _ (DueNoLater x) (due_read x) xs (f by_due h)

module _ (clock : ℕ) (p : DueQueue) where
  pub taken : (x : Due) (r : Option Due) (q : DueQueue) → Some x ≡ front p → x.deadline ≤ clock → r ≡ front p → Taken (due-ord.ghosts).cmp p r q → Heaped by_due (entries p) → FirstDue clock (entries p) r
  taken x None q e le is t h = absurd (none-some x (is ∙ sym e))
  taken x (Some y) q e le is t h = (subst (λ (z : Due). z.deadline ≤ clock) (same_Some x y (e ∙ sym is)) le, due_first y (entries p) t.3 h)

  pub not_yet : (x : Due) → Some x ≡ front p → clock < x.deadline → FirstOf (due-ord.ghosts).cmp x (entries p) → (None ≡ if_due clock (front p)) × (Heaped by_due (entries p) → FirstDue clock (entries p) None)
  not_yet x e lt f =
      (rw (← e, lt-leb x.deadline clock lt) refl, λ h. All-weaker (DueNoLater x) (λ y. clock < y.deadline) (λ y n. omega arith) (entries p) (due_first x (entries p) f h))

pub nothing : (clock : ℕ) (xs : List Due) → None ≡ slice_get xs 0 → (None ≡ if_due clock (slice_get xs 0)) × (Heaped by_due xs → FirstDue clock xs None)
nothing clock [] e = (refl, λ h. tt)
nothing clock (x ∷ xs) e = absurd (none-some x e)
