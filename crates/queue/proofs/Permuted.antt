-- Lists in another order: what std says by exchanges, and what holds of each entry and of their count.
use Rattle.std.proofs.Common.{◌≡◌, ℕ, zero, suc, ◌<◌, List, [], ◌∷◌, length, get_or, set, refl, ap, ◌∙◌, subst, arith}
use mathlib.Core.Logic.{∥∥₁_elim}
use mathlib.Core.List.Permᴰ
use mathlib.Core.List.{Perm, Permᴰ}
use native.Mathlib.Nat.{ℕ_set}
use Rattle.std.specs.List.{swap, AllByRecursion}
use Rattle.std.specs.List.Sorted.{IsPermutation}
use Rattle.std.proofs.lemmas.List.Sorted.{IsPermutation-keeps}

module _ {X : Type 0} where
  -- ---- from std's exchanges
  to_front : (y d : X) (ys : List X) (j : ℕ) → j < length ys → Permᴰ (y ∷ ys) (get_or ys j d ∷ set ys j y)
  to_front y d [] j h = absurd (omega arith)
  to_front y d (x ∷ xs) zero h = Permᴰ.swap refl refl
  to_front y d (x ∷ xs) (suc j) h =
      let k : j < length xs = omega arith in
      Permᴰ.trans (Permᴰ.swap refl refl) (Permᴰ.trans (Permᴰ.cons refl (to_front y d xs j k)) (Permᴰ.swap refl refl))

  swapped : (d : X) (l : List X) (i j : ℕ) → i < length l → j < length l → Permᴰ l (set (set l i (get_or l j d)) j (get_or l i d))
  swapped d [] i j h k = absurd (omega arith)
  swapped d (x ∷ xs) zero zero h k = Permᴰ.refl (x ∷ xs)
  swapped d (x ∷ xs) zero (suc j) h k = let b : j < length xs = omega arith in to_front x d xs j b
  swapped d (x ∷ xs) (suc i) zero h k = let b : i < length xs = omega arith in to_front x d xs i b
  swapped d (x ∷ xs) (suc i) (suc j) h k =
      let a : i < length xs = omega arith in
      let b : j < length xs = omega arith in
      Permᴰ.cons refl (swapped d xs i j a b)

  exchange : (l : List X) (i j : ℕ) → i < length l → j < length l → Permᴰ l (swap l i j)
  exchange [] i j h k = Permᴰ.nil
  exchange (x ∷ xs) i j h k = swapped x (x ∷ xs) i j h k

  pub perm_from_shuffled : (xs ys : List X) → IsPermutation xs ys → Perm xs ys
  perm_from_shuffled xs ys s =
      ∣ IsPermutation-keeps xs (λ l. Permᴰ xs l) (Permᴰ.refl xs) (λ l i j h k p. Permᴰ.trans p (exchange l i j h k)) ys s ∣₁

  -- ---- the count
  length_as : {a b : List X} → Permᴰ a b → length a ≡ length b
  length_as Permᴰ.nil = refl
  length_as (Permᴰ.cons e p) = ap suc (length_as p)
  length_as (Permᴰ.swap e f) = refl
  length_as (Permᴰ.trans p q) = length_as p ∙ length_as q

  pub length_perm : (a b : List X) → Perm a b → length a ≡ length b
  length_perm a b p = ∥∥₁_elim p (ℕ_set _ _) (λ d. length_as d)

  -- ---- what holds of each entry, in at most one way
  module _ (P : X → Type 0) (once : (x : X) → IsProp (P x)) where
    all_once : (xs : List X) → IsProp (AllByRecursion P xs)
    all_once [] a b = refl
    all_once (x ∷ xs) a b = λ i. (once x a.0 b.0 i, all_once xs a.1 b.1 i)

    all_as : {a b : List X} → Permᴰ a b → AllByRecursion P a → AllByRecursion P b
    all_as Permᴰ.nil h = h
    all_as (Permᴰ.cons e p) h = (subst P e h.0, all_as p h.1)
    all_as (Permᴰ.swap e f) h = (subst P f h.1.0, (subst P e h.0, h.1.1))
    all_as (Permᴰ.trans p q) h = all_as q (all_as p h)

    pub all_perm : (a b : List X) → Perm a b → AllByRecursion P a → AllByRecursion P b
    all_perm a b p h = ∥∥₁_elim p (all_once b) (λ d. all_as d h)
