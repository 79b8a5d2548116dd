-- The counts of areas and slots, and the laws of the rule that the quotas make.
use Rattle.std.specs.Prelude.{◌≡◌, ℕ, ◌+◌, ◌<◌, ◌≤◌, true, false, cond, List, ◌∷◌, length, refl}
use Rattle.std.proofs.Common.{⊎_elim, ap, ◌∙◌, arith}
use Rattle.std.proofs.lemmas.List.Sums.{sum_by-cons}
use Rattle.std.proofs.lemmas.Bool.{cases_Bool, cond-true, cond-false, eqb-true, eq-eqb, ltb-true, lt-ltb, and_parts, and_from}
use Rattle.stops.specs.declared.stop.Stop.{Stop}
use Rattle.fleet.specs.Layers.{OwnLaws}
use Rattle.fleet.specs.Orders.{sum_perm, length_perm}
use Rattle.areas.specs.declared.quotas.Quotas.{Quotas}
use Rattle.areas.specs.Areas.{area}
use Rattle.areas.specs.Limits.{stop_limit}
use Rattle.areas.specs.Quotas.{quota_at, inside, count, quotas}

-- 1 for a stop in an area and a slot, and 0 for any other
abbrev pub one : ℕ → ℕ → Stop → ℕ
one a i s = cond (inside a i s) 1 0

-- one more stop adds what it counts
count_cons : (a i : ℕ) (s : Stop) (l : List Stop) → count a i (s ∷ l) ≡ one a i s + count a i l
count_cons a i s l = sum_by-cons (one a i) s l

one_here : (a i : ℕ) (s : Stop) → inside a i s ≡ true → one a i s ≡ 1
one_here a i s e = cond-true (inside a i s) 1 0 e

one_there : (a i : ℕ) (s : Stop) → inside a i s ≡ false → one a i s ≡ 0
one_there a i s e = cond-false (inside a i s) 1 0 e

-- at most 1
pub one_at_most : (a i : ℕ) (s : Stop) → one a i s ≤ 1
one_at_most a i s = ⊎_elim (λ h. omega (arith, one_here a i s h)) (λ h. omega (arith, one_there a i s h)) (cases_Bool (inside a i s))

-- a stop is in its own area and slot
at_home : (s : Stop) → inside (area s.place) s.slot s ≡ true
at_home s = and_from _ _ (eq-eqb (area s.place) (area s.place) refl) (eq-eqb s.slot s.slot refl)

module _ (q : Quotas) (l : List Stop) (s : Stop) where
  -- a stop that passes the test: there are fewer stops than the limit, and fewer than the quota where it is
  passed : quotas.admits q l s ≡ true → (length l < stop_limit) × (count (area s.place) s.slot l < quota_at q (area s.place) s.slot)
  passed e = let p = and_parts _ _ e in (ltb-true _ _ p.0, ltb-true _ _ p.1)

  -- in each area and slot the quota is kept with it
  within : (a i : ℕ) → count a i l ≤ quota_at q a i → quotas.admits q l s ≡ true → count a i (s ∷ l) ≤ quota_at q a i
  within a i k e =
      ⊎_elim
      (λ h.
      let b = and_parts _ _ h in
      let x = eqb-true (area s.place) a b.0 in
      let y = eqb-true s.slot i b.1 in
      let counts : count (area s.place) s.slot l ≡ count a i l = ap (λ z. count z s.slot l) x ∙ ap (λ z. count a z l) y in
      let quota : quota_at q (area s.place) s.slot ≡ quota_at q a i = ap (λ z. quota_at q z s.slot) x ∙ ap (quota_at q a) y in
      omega (arith, count_cons a i s l, one_here a i s h, (passed e).1))
      (λ h. omega (arith, count_cons a i s l, one_there a i s h))
      (cases_Bool (inside a i s))

  -- and each stop with which the quota where it is is kept passes the test
  passes : quotas.keeps q (s ∷ l) → quotas.admits q l s ≡ true
  passes k =
      let a = area s.place in
      and_from _ _
      (lt-ltb (length l) stop_limit (omega (arith, k.0)))
      (lt-ltb (count a s.slot l) (quota_at q a s.slot) (omega (arith, k.1 a s.slot, count_cons a s.slot s l, one_here a s.slot s (at_home s))))

pub quotas_bounded : (q : Quotas) (l : List Stop) (s : Stop) → quotas.admits q l s ≡ true → length l < stop_limit
quotas_bounded q l s e = (passed q l s e).0

pub quotas_laws : OwnLaws quotas
quotas_laws = record {
  nothing = λ q. (omega arith, λ a i. omega arith);
  blind = λ q a b h k. (omega (arith, length_perm a b h, k.0), λ z i. omega (arith, k.1 z i, sum_perm (one z i) a b h));
  fewer = λ q s l k. (omega (arith, k.0), λ a i. omega (arith, k.1 a i, count_cons a i s l));
  sound = λ q l s k e. (omega (arith, (passed q l s e).0), λ a i. within q l s a i (k.1 a i) e);
  exact = λ q l s k. passes q l s k;
}
