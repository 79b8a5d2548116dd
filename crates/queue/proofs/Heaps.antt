-- A heap of entries: its first one, and what std's calls do to it, which has the entries with their order turned round.
use Rattle.std.proofs.Common.{◌≡◌, ℕ, zero, suc, ◌+◌, ◌*◌, ◌<◌, ◌≤◌, Bool, true, false, ⊎_elim, List, [], ◌∷◌, map, length, get_or, Some, Ok, Err, Result, Ordering, sym, refl, ap, ◌∙◌, subst, arith, true≢false, IsOk, OnOk, IfSome, IfNone, None, Option, Bor, heap_items, heap_len}
use mathlib.Core.List.Perm
use mathlib.Core.List.{Perm}
use lib.ListN.{length-map, get_or-map}
use Rattle.std.specs.declared.cmp.Reverse.{Reverse}
use Rattle.std.specs.BinaryHeap as std
use Rattle.std.specs.Cmp.{IsTotalOrder}
use Rattle.std.specs.List.Sorted.{IsPermutation}
use Rattle.std.specs.Option.{option_map}
use Rattle.std.proofs.lemmas.List.MinMax.{ranks_by}
use Rattle.std.proofs.ByRecursion.{All-from_get_or}
use Rattle.std.proofs.lemmas.Bool.{cases_lt}
use Rattle.std.proofs.lemmas.Option.{none-some, same_Some}
use Rattle.std.specs.declared.cmp.Ord as Ord
use Rattle.std.specs.declared.cmp.PartialEq as PartialEq
use Rattle.std.specs.declared.cmp.PartialOrd as PartialOrd
use Rattle.queue.specs.declared.queue.Queue.{Queue}
use Rattle.queue.specs.Queues.{Taken}
use Rattle.queue.specs.Orders.{Heaped, Least, NotAfter, FirstOf}
use Rattle.queue.proofs.Permuted.{perm_from_shuffled}

-- ---- the first entry
parent : (k : ℕ) → (p : ℕ) × (p * 2 ≤ k) × (k ≤ p * 2 + 1)
parent zero = (0, omega arith, omega arith)
parent (suc k) = let h = parent k in ⊎_elim (λ a. (h.0, omega (arith, h.1), omega arith)) (λ a. (h.0 + 1, omega (arith, h.2), omega (arith, h.2))) (cases_lt k (h.0 * 2 + 1))

never : (b : Bool) → (b ≡ true → b ≡ false) → b ≡ false
never true h = h refl
never false h = refl

module _ {X : Type 0} {R : X → X → Ordering} (o : IsTotalOrder R) where
  -- from an entry up to the first one, in at most as many steps as its place
  climbs : (xs : List X) (d : X) → Heaped o xs → (steps k : ℕ) → k ≤ steps → k < length xs → NotAfter o (get_or xs 0 d) (get_or xs k d)
  climbs xs d h steps zero a b = never _ ((ranks_by o (λ x. x)).one_way (get_or xs 0 d) (get_or xs 0 d))
  climbs xs d h zero (suc k) a b = absurd (omega arith)
  climbs xs d h (suc steps) (suc k) a b =
      let p = parent k in
      let up = climbs xs d h steps p.0 (omega (arith, p.1)) (omega (arith, p.1)) in
      (ranks_by o (λ x. x)).chain (get_or xs (suc k) d) (get_or xs p.0 d) (get_or xs 0 d) (h (p.0, suc k, d) (omega (arith, p.1), omega (arith, p.2), b)) up

  -- it is a least one, whatever call the heap came from
  pub first_least : (xs : List X) (x : X) → x ≡ get_or xs 0 x → Heaped o xs → Least o x xs
  first_least xs x e h = All-from_get_or (NotAfter o x) xs x (λ k b. subst (λ y. NotAfter o y (get_or xs k x)) (sym e) (climbs xs x h k k (omega arith) b))

-- nothing at all is a heap
pub none_heaped : {X : Type 0} {R : X → X → Ordering} (xs : List X) → xs ≡ [] → (o : IsTotalOrder R) → Heaped o xs
none_heaped xs e o at c = let z : length xs ≡ 0 = ap length e in absurd (omega (arith, c.2))

-- the order turned round
abbrev pub turned : {X : Type 0} → (X → X → Ordering) → Reverse X → Reverse X → Ordering
turned R a b = R b.0 a.0

module _ {X : Type 0} where
  abbrev plain : List (Reverse X) → List X
  plain rs = map (λ r. r.0) rs

  at_place : (rs : List (Reverse X)) (d : X) (k : ℕ) → get_or (plain rs) k d ≡ (get_or rs k (record { 0 = d })).0
  at_place rs d k = get_or-map (λ (r : Reverse X). r.0) rs k (record { 0 = d })

  pub none_is : (rs : List (Reverse X)) → length rs ≡ 0 → plain rs ≡ []
  none_is [] e = refl
  none_is (r ∷ rs) e = absurd (omega arith)

  module _ {R : X → X → Ordering} where
    to_std : (o : IsTotalOrder R) (rs : List (Reverse X)) → Heaped o (plain rs) → std.IsHeap (turned R) rs
    unfolding std.IsHeap
    to_std o rs h p k d low a b c = simp (at_place rs d.0 k, at_place rs d.0 p) at (h (p, k, d.0) (a, b, simp length-map c))

    from_std : (o : IsTotalOrder R) (rs : List (Reverse X)) → std.IsHeap (turned R) rs → Heaped o (plain rs)
    unfolding std.IsHeap
    from_std o rs h at c = simp (at_place rs at.2 at.0, at_place rs at.2 at.1) (h at.0 at.1 (record { 0 = at.2 }) (omega arith) c.0 c.1 (simp length-map at c.2))

    least : (o : IsTotalOrder R) (r : Reverse X) (rs : List (Reverse X)) → std.IsUpperBound (turned R) r rs → Least o r.0 (plain rs)
    least o r [] h = tt
    least o r (s ∷ rs) h = (h.0, least o r rs h.1)

    pub first_of : (r : Reverse X) (rs : List (Reverse X)) → (std.IsHeap (turned R) rs → std.IsUpperBound (turned R) r rs) → FirstOf R r.0 (plain rs)
    first_of r rs g o h = least o r rs (g (to_std o rs h))

  pub peeked : (R : X → X → Ordering) (o : Option (Bor (Reverse X))) (m : Option (Bor X)) (rs : List (Reverse X)) → option_map (λ x. x.now) m ≡ option_map (λ e. e.now.0) o → IfSome o (λ e. std.IsHeap (turned R) rs → std.IsUpperBound (turned R) e.now rs) → IfSome m (λ x. FirstOf R x.now (plain rs))
  peeked R (Some e) (Some x) rs same h = subst (λ y. FirstOf R y (plain rs)) (sym (same_Some x.now e.now.0 same)) (first_of e.now rs h)
  peeked R o None rs same h = tt
  peeked R None (Some x) rs same h = absurd (none-some x.now (sym same))

  pub pushed : {A E : Type 0} (R : X → X → Ordering) (x : X) (rs ss : List (Reverse X)) (r : Result A E) → IsOk r → OnOk r (IsPermutation (record { 0 = x } ∷ rs) ss) → OnOk r (std.KeepsHeap (turned R) rs ss)
      → Perm (x ∷ plain rs) (plain ss) × ((o : IsTotalOrder R) → Heaped o (plain rs) → Heaped o (plain ss))
  pushed R x rs ss (Ok u) ok perm keeps = (Perm.map (λ r. r.0) (perm_from_shuffled _ _ perm), λ o k. from_std o ss (keeps (to_std o rs k)))
  pushed R x rs ss (Err e) ok perm keeps = absurd (true≢false (sym ok))

module _ {X : Type 0} {ord : Ord.Ghosts X} {equal : PartialEq.Ghosts X} {partial : PartialOrd.Ghosts X} (R : X → X → Ordering) (p q : Queue X ord equal partial) where
  pub taken : (r : Option (Reverse X)) → q.room ≡ p.room → IfSome r (λ x. IsPermutation (heap_items p.heap) (x ∷ heap_items q.heap)) → IfSome r (λ x. std.PopsGreatest (turned R) (heap_items p.heap) x (heap_items q.heap))
      → IfNone r (heap_len p.heap ≡ 0) → IfNone r (std.HeapUnchanged p.heap q.heap) → Taken R p (option_map (λ e. e.0) r) q
  taken (Some e) room perm pops none same = (Perm.map (λ r. r.0) (perm_from_shuffled _ _ perm), room, λ o k. from_std o _ (pops (to_std o _ k)).0, first_of e _ (λ k. (pops k).1))
  taken None room perm pops none same =
      let gone = none_is (heap_items p.heap) (omega (arith, none, p.heap.«data».ok.0)) in
      let still = ap (map (λ r. r.0)) same.0 ∙ gone in
      (gone, (still, room, none_heaped _ still))
