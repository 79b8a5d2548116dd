-- The first of the cheapest places: the better of two keeps it, and there is only one.
use Rattle.std.specs.Prelude.{◌≡◌, ℕ, ◌+◌, ◌<◌, ◌≤◌, ◌⊎◌, Bool, true, false, cond, Some, None, Decides, Option, nat_lt, refl}
use Rattle.std.specs.Option.{option_map}
use Rattle.std.proofs.Common.{⊎_elim, inl, inr, sym, ap, subst, ◌∙◌, arith}
use Rattle.std.proofs.Math.Decide.{dec_lt}
use Rattle.std.proofs.lemmas.Bool.Decides.{Decides-ltb, not_from_Decides}
use Rattle.vans.specs.declared.choice.Insertion.{Insertion}
use Rattle.vans.specs.Better.{better, moved, Offers, Least}

-- R are the places of P and those of Q, none of which comes before one of P
module _ {X : Type 0} (c : X → ℕ) (B : X → X → Type 0) (P Q R : X → Type 0) (parts : (x : X) → R x → P x ⊎ Q x) (left : (x : X) → P x → R x) (right : (x : X) → Q x → R x) (later : (x y : X) → P x → Q y → B y x → ⊥) where
  stays : (b : Insertion X) → Least P c B (Some b) → ((x : X) → Q x → b.added ≤ c x) → Least R c B (Some b)
  stays b h f = (left b.at h.0, h.1, λ x r. ⊎_elim (λ p. h.2 x p) (λ q. (f x q, λ e. absurd (later b.at x h.0 q e))) (parts x r))

  moves : (b : Insertion X) → Least Q c B (Some b) → ((x : X) → P x → b.added < c x) → Least R c B (Some b)
  moves b h f = (right b.at h.0, h.1, λ x r. ⊎_elim (λ p. let m = f x p in (omega arith, λ _. m)) (λ q. h.2 x q) (parts x r))

  pick : (a b : Insertion X) (t : Bool) → Decides t (b.added < a.added) → Least P c B (Some a) → Least Q c B (Some b) → Least R c B (cond t (Some b) (Some a))
  pick a b true d h k = let lt = d.0 refl in moves b k (λ x p. omega (arith, (h.2 x p).0))
  pick a b false d h k = let z = not_from_Decides false d refl in stays a h (λ x q. omega (arith, (k.2 x q).0))

  pub least_better : (a b : Option (Insertion X)) → Least P c B a → Least Q c B b → Least R c B (better a b)
  least_better None None h k = λ x r. ⊎_elim (λ p. h x p) (λ q. k x q) (parts x r)
  least_better None (Some b) h k = moves b k (λ x p. absurd (h x p))
  least_better (Some a) None h k = stays a h (λ x q. absurd (k x q))
  least_better (Some a) (Some b) h k = pick a b (nat_lt b.added a.added) (Decides-ltb b.added a.added) h k

pub offers_like : {X P Q : Type 0} (n : X) (a b : ℕ) → (P → Q) → (Q → P) → a ≡ b → (r : Option (Insertion X)) → Offers P n a r → Offers Q n b r
offers_like n a b f g e None h = λ q. h (g q)
offers_like n a b f g e (Some x) h = (f h.0, h.1, h.2 ∙ e)

-- one position more
pub least_more : (P : ℕ → Type 0) (c : ℕ → ℕ) (n : ℕ) (b r : Option (Insertion ℕ)) → Least (λ k. (k < n) × P k) c ◌<◌ b → Offers (P n) n (c n) r → Least (λ k. (k < n + 1) × P k) c ◌<◌ (better b r)
least_more P c n b r h o =
    least_better c ◌<◌ (λ k. (k < n) × P k) (λ k. (k ≡ n) × P k) (λ k. (k < n + 1) × P k)
    (λ k p. elim (dec_lt k n) [ yes l ↦ inl (l, p.1) | no l ↦ inr (omega arith, p.1) ])
    (λ k p. (omega arith, p.1))
    (λ k q. (omega arith, q.1))
    (λ k j p q l. omega arith)
    b r h (only r o)
  where
    only : (r : Option (Insertion ℕ)) → Offers (P n) n (c n) r → Least (λ k. (k ≡ n) × P k) c ◌<◌ r
    only None o = λ k q. o (subst P q.0 q.1)
    only (Some x) o = ((o.1, subst P (sym o.1) o.0), o.2 ∙ ap c (sym o.1), λ k q. let e = ap c q.0 in (omega (arith, o.2), λ l. absurd (omega (arith, o.1))))

-- the places of Q are those of P by other names, in the same order and at the same cost
pub least_moved : {X Y : Type 0} (f : X → Y) (P : X → Type 0) (c : X → ℕ) (B : X → X → Type 0) (Q : Y → Type 0) (d : Y → ℕ) (C : Y → Y → Type 0) → ((x : X) → P x → Q (f x)) → ((y : Y) → Q y → (x : X) × P x × (f x ≡ y)) → ((x : X) → P x → c x ≡ d (f x)) → ((x z : X) → C (f x) (f z) → B x z) → (r : Option (Insertion X)) → Least P c B r → Least Q d C (option_map (moved f) r)
least_moved f P c B Q d C to from same order None h = λ y q. let w = from y q in h w.0 w.1
least_moved f P c B Q d C to from same order (Some b) h = (
  to b.at h.0,
  h.1 ∙ same b.at h.0,
  λ y q.
      let w = from y q in
      let m = h.2 w.0 w.1 in
      let e = same w.0 w.1 in
      subst (λ z. (b.added ≤ d z) × (C z (f b.at) → b.added < d z)) w.2 (omega arith, λ l. let n = m.1 (order w.0 b.at l) in omega arith),
)

-- the same places
pub least_same : {X : Type 0} (P Q : X → Type 0) (c : X → ℕ) (B : X → X → Type 0) → ((x : X) → P x → Q x) → ((x : X) → Q x → P x) → (r : Option (Insertion X)) → Least P c B r → Least Q c B r
least_same P Q c B f g None h = λ x q. h x (g x q)
least_same P Q c B f g (Some b) h = (f b.at h.0, h.1, λ x q. h.2 x (g x q))

-- in an order where of two places one is the earlier, there is only one
pub least_unique : {X : Type 0} (P : X → Type 0) (c : X → ℕ) (B : X → X → Type 0) → ((x y : X) → (B x y → ⊥) → (B y x → ⊥) → x ≡ y) → (a b : Option (Insertion X)) → Least P c B a → Least P c B b → a ≡ b
least_unique P c B apart None None h k = refl
least_unique P c B apart None (Some b) h k = absurd (h b.at k.0)
least_unique P c B apart (Some a) None h k = absurd (k a.at h.0)
least_unique P c B apart (Some a) (Some b) h k =
    let m = h.2 b.at k.0 in
    let n = k.2 a.at h.0 in
    let e = apart a.at b.at (λ l. let z = n.1 l in omega (arith, h.1, k.1)) (λ l. let z = m.1 l in omega (arith, h.1, k.1)) in
    let t : a.added ≡ b.added = omega (arith, h.1, k.1) in
    ap (λ x. Some (record { at = x; added = a.added })) e ∙ ap (λ n. Some (record { at = b.at; added = n })) t
