-- Lists in another order: sums, lengths and images.
use Rattle.std.specs.Prelude.{◌≡◌, ℕ, suc, List, ◌∷◌, map, length, sum_by, refl}
use mathlib.Core.List.{Perm, Permᴰ}
use Rattle.std.proofs.Math.Logic.{∥∥₁_elim, ∥∥₁_map}
use Rattle.std.proofs.Common.{ap, ◌∙◌, arith}
use Rattle.std.proofs.Math.Nat.{ℕ_set}
use Rattle.std.proofs.lemmas.List.Sums.{sum_by-cons}

sum_as : {X : Type 0} (f : X → ℕ) {a b : List X} → Permᴰ a b → sum_by f a ≡ sum_by f b
sum_as f Permᴰ.nil = refl
sum_as f (Permᴰ.cons {a} {b} {l₁ = k} {l₂ = l} e d) = let q : f a ≡ f b = ap f e in omega (arith, sum_as f d, sum_by-cons f a k, sum_by-cons f b l)
sum_as f (Permᴰ.swap {a} {b} {a' = c} {b' = d} {l} e g) =
    let p : f a ≡ f d = ap f e in
    let q : f b ≡ f c = ap f g in
    omega (arith, sum_by-cons f a (b ∷ l), sum_by-cons f b l, sum_by-cons f c (d ∷ l), sum_by-cons f d l)
sum_as f (Permᴰ.trans d e) = sum_as f d ∙ sum_as f e

pub sum_perm : {X : Type 0} (f : X → ℕ) (a b : List X) → Perm a b → sum_by f a ≡ sum_by f b
sum_perm f a b p = ∥∥₁_elim p (ℕ_set _ _) (λ d. sum_as f d)

length_as : {X : Type 0} {a b : List X} → Permᴰ a b → length a ≡ length b
length_as Permᴰ.nil = refl
length_as (Permᴰ.cons e d) = ap suc (length_as d)
length_as (Permᴰ.swap e g) = refl
length_as (Permᴰ.trans d e) = length_as d ∙ length_as e

pub length_perm : {X : Type 0} (a b : List X) → Perm a b → length a ≡ length b
length_perm a b p = ∥∥₁_elim p (ℕ_set _ _) (λ d. length_as d)

map_as : {X Y : Type 0} (f : X → Y) {a b : List X} → Permᴰ a b → Permᴰ (map f a) (map f b)
map_as f Permᴰ.nil = Permᴰ.nil
map_as f (Permᴰ.cons e d) = Permᴰ.cons (ap f e) (map_as f d)
map_as f (Permᴰ.swap e g) = Permᴰ.swap (ap f e) (ap f g)
map_as f (Permᴰ.trans d e) = Permᴰ.trans (map_as f d) (map_as f e)

pub map_perm : {X Y : Type 0} (f : X → Y) (a b : List X) → Perm a b → Perm (map f a) (map f b)
map_perm f a b p = ∥∥₁_map {B = Permᴰ (map f a) (map f b)} p (λ d. map_as f d)
