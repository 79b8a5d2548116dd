-- An order over the fields from the left, read as facts about numbers.
use Rattle.std.proofs.Common.{◌≡◌, ℕ, ◌<◌, ◌≤◌, ◌⊎◌, false, List, [], ◌∷◌, take, Ok, Err, Result, Ordering, sym, inl, inr, ⊎_elim, true≢false, arith}
use Rattle.std.specs.Cmp.{IsTotalOrder, nat_cmp_total, on_total, ranks, then_total}
use Rattle.std.specs.Ordering.{MatchOrdering, is_lt, nat_cmp, on, ordering_then, then_cmp}
use Rattle.std.specs.declared.cmp.Ordering.TheVariants.{Less, Equal, Greater}
use Rattle.std.proofs.lemmas.Bool.Decides.{nat_tests}
use Rattle.std.proofs.ByRecursion.{All-weaker}
use Rattle.stops.specs.declared.refusal.Refusal.{Refusal}
use Rattle.queue.specs.contracts.visit.PlannedVisitOrd.TheImpl as visit-ord
use Rattle.queue.specs.declared.due.Due.{Due}
use Rattle.queue.specs.declared.visit.PlannedVisit.{PlannedVisit}
use Rattle.queue.specs.Entries.{by_due, by_visit, DueNoLater, VisitNoLater, VisitQueue}
use Rattle.queue.specs.Orders.{InOrder, NotAfter}
use Rattle.queue.specs.Plans.{Planned}
use Rattle.queue.specs.Queues.{Drained}

-- the order over two fields, from the left
abbrev pub fields : {A B : Type 0} {R : A → A → Ordering} {S : B → B → Ordering} → IsTotalOrder R → IsTotalOrder S → IsTotalOrder (then_cmp (on (λ (p : A × B). p.0) R) (on (λ (p : A × B). p.1) S))
fields {A} {B} a b = then_total (on_total (λ (p : A × B). p.0) a) (on_total (λ (p : A × B). p.1) b)

-- one number
pub number_read : (m n : ℕ) → NotAfter nat_cmp_total m n → m ≤ n
number_read m n h = grind (arith, nat_tests)

-- a number, and then others
pub first_read : {B : Type 0} {Q : B → B → Ordering} (b : IsTotalOrder Q) (x y : ℕ × B) → NotAfter (fields nat_cmp_total b) x y → (x.0 < y.0) ⊎ ((x.0 ≡ y.0) × NotAfter b x.1 y.1)
first_read {B} {Q} b x y h = read (nat_cmp y.0 x.0) (ranks y.0 x.0) h
  where
    read : (o : Ordering) → MatchOrdering o (y.0 < x.0) (y.0 ≡ x.0) (x.0 < y.0) → is_lt (ordering_then o (Q y.1 x.1)) ≡ false → (x.0 < y.0) ⊎ ((x.0 ≡ y.0) × NotAfter b x.1 y.1)
    read Less k e = absurd (true≢false e)
    read Equal k e = inr (sym k, e)
    read Greater k e = inl k

-- two numbers
pub pair_read : (x y : ℕ × ℕ) → NotAfter (fields nat_cmp_total nat_cmp_total) x y → (x.0 < y.0) ⊎ ((x.0 ≡ y.0) × (x.1 ≤ y.1))
pair_read x y h = ⊎_elim inl (λ k. inr (k.0, number_read x.1 y.1 k.1)) (first_read nat_cmp_total x y h)

-- three numbers
pub triple_read : (x y : ℕ × (ℕ × ℕ)) → NotAfter (fields nat_cmp_total (fields nat_cmp_total nat_cmp_total)) x y → (x.0 < y.0) ⊎ ((x.0 ≡ y.0) × ((x.1.0 < y.1.0) ⊎ ((x.1.0 ≡ y.1.0) × (x.1.1 ≤ y.1.1))))
triple_read x y h = ⊎_elim inl (λ k. inr (k.0, pair_read x.1 y.1 k.1)) (first_read (fields nat_cmp_total nat_cmp_total) x y h)

pub due_read : (x y : Due) → NotAfter by_due x y → DueNoLater x y
due_read x y h = grind (arith, nat_tests)

pub visit_read : (x y : PlannedVisit) → NotAfter by_visit x y → VisitNoLater x y
visit_read x y h = grind (arith, nat_tests)

-- a list in order is in order by what follows from it
pub in_order_weaker : {X : Type 0} (L M : X → X → Type 0) → ((x y : X) → L x y → M x y) → (xs : List X) → InOrder L xs → InOrder M xs
in_order_weaker L M w [] h = tt
in_order_weaker L M w (x ∷ xs) h = (All-weaker (L x) (M x) (w x) xs h.0, in_order_weaker L M w xs h.1)

-- visits that are drained stand in the order of a plan
pub planned : (p : VisitQueue) (old : List PlannedVisit) (r : Result ℕ Refusal) (q : VisitQueue) (new : List PlannedVisit) → Drained (visit-ord.ghosts).cmp p old r q new → Planned p old r q new
planned p old (Ok k) q new h = (h, λ s. in_order_weaker _ VisitNoLater visit_read (take k new) (h.1.1 by_visit s))
planned p old (Err e) q new h = h
