-- Numbers in a load: whether and how often they are held, and the load without one.
use Rattle.std.specs.Prelude.{◌≡◌, ℕ, ◌+◌, ◌<◌, ◌≤◌, Bool, true, false, cond, ◌||◌, [], ◌∷◌, ◌==◌, ◌≢◌, refl}
use mathlib.Core.List.Memᴰ
use mathlib.Core.List.{Perm, Perm-prop, mem-cons_self, Memᴰ}
use Rattle.std.proofs.Common.{⊎_elim, sym, ap, subst, ◌∙◌, arith}
use Rattle.std.proofs.Math.Logic.{∥∥₁_elim}
use Rattle.std.proofs.lemmas.List.Sums.{sum_by-cons}
use Rattle.std.proofs.lemmas.Bool.{cases_Bool, cond-true, cond-false, eqb-true, eq-eqb, ne_eqb}
use Rattle.stops.specs.declared.stop.Stop.{Stop}
use Rattle.fleet.specs.Loads.{Load, times, held, without}
use Rattle.fleet.specs.Orders.{sum_perm}

-- how often a number is held
pub times_perm : (a b : Load) (n : ℕ) → Perm a b → times n a ≡ times n b
times_perm a b n h = sum_perm (λ (p : ℕ × Stop). cond (p.0 == n) 1 0) a b h

pub times_cons : (p : ℕ × Stop) (l : Load) (n : ℕ) → times n (p ∷ l) ≡ cond (p.0 == n) 1 0 + times n l
times_cons p l n = sum_by-cons (λ (p : ℕ × Stop). cond (p.0 == n) 1 0) p l

pub times_here : (p : ℕ × Stop) (l : Load) (n : ℕ) → (p.0 == n) ≡ true → times n (p ∷ l) ≡ 1 + times n l
times_here p l n e = let c : ◌≡◌ {A = ℕ} (cond (p.0 == n) 1 0) 1 = cond-true (p.0 == n) 1 0 e in omega (arith, times_cons p l n)

pub times_there : (p : ℕ × Stop) (l : Load) (n : ℕ) → (p.0 == n) ≡ false → times n (p ∷ l) ≡ times n l
times_there p l n e = let c : ◌≡◌ {A = ℕ} (cond (p.0 == n) 1 0) 0 = cond-false (p.0 == n) 1 0 e in omega (arith, times_cons p l n)

or_there : (a b : Bool) → a ≡ false → (a || b) ≡ b
or_there a b e = ap (λ c. c || b) e

or_here : (a b : Bool) → a ≡ true → (a || b) ≡ true
or_here a b e = ap (λ c. c || b) e

-- a number is held exactly where it stands once or more
pub held_none : (n : ℕ) (l : Load) → held n l ≡ false → times n l ≡ 0
held_none n [] h = refl
held_none n (p ∷ l) h =
    ⊎_elim
    (λ e. let z : ◌≡◌ {A = ℕ} 0 1 = cc (sym (or_here (p.0 == n) (held n l) e) ∙ h) in absurd (omega arith))
    (λ e. times_there p l n e ∙ held_none n l (sym (or_there (p.0 == n) (held n l) e) ∙ h))
    (cases_Bool (p.0 == n))

pub held_some : (n : ℕ) (l : Load) → held n l ≡ true → 0 < times n l
held_some n [] h = let z : ◌≡◌ {A = ℕ} 0 1 = cc in absurd (omega arith)
held_some n (p ∷ l) h =
    ⊎_elim
    (λ e. omega (arith, times_here p l n e))
    (λ e. omega (arith, times_there p l n e, held_some n l (sym (or_there (p.0 == n) (held n l) e) ∙ h)))
    (cases_Bool (p.0 == n))

pub none_held : (n : ℕ) (l : Load) → times n l ≡ 0 → held n l ≡ false
none_held n l z = ⊎_elim (λ h. absurd (omega (arith, held_some n l h))) (λ h. h) (cases_Bool (held n l))

pub some_held : (n : ℕ) (l : Load) → 0 < times n l → held n l ≡ true
some_held n l z = ⊎_elim (λ h. h) (λ h. absurd (omega (arith, held_none n l h))) (cases_Bool (held n l))

-- the order of the load does not count
pub held_perm : (a b : Load) (n : ℕ) → Perm a b → held n a ≡ held n b
held_perm a b n p =
    ⊎_elim
    (λ h. h ∙ sym (some_held n b (omega (arith, held_some n a h, times_perm a b n p))))
    (λ h. h ∙ sym (none_held n b (omega (arith, held_none n a h, times_perm a b n p))))
    (cases_Bool (held n a))

-- what is added under another number
pub held_others : (n : ℕ) (s : Stop) (k : ℕ) (l : Load) → (n ≢ k) → held k ((n, s) ∷ l) ≡ held k l
held_others n s k l apart = or_there (n == k) (held k l) (ne_eqb n k apart)

-- a load with a number is that stop and the load without it
pub taken : (n : ℕ) (l : Load) → held n l ≡ true → (s : Stop) × Perm l ((n, s) ∷ without n l)
taken n [] h = let z : ◌≡◌ {A = ℕ} 0 1 = cc in absurd (omega arith)
taken n (p ∷ l) h =
    ⊎_elim
    (λ e. (
      p.1,
      let c : without n (p ∷ l) ≡ l = cond-true (p.0 == n) l (p ∷ without n l) e in
          let d : p.0 ≡ n = eqb-true p.0 n e in
          rw (c, ← d) (mathlib.Core.List.Perm.refl (p ∷ l)),
    ))
    (λ e.
    let r = taken n l (sym (or_there (p.0 == n) (held n l) e) ∙ h) in
    let c : without n (p ∷ l) ≡ p ∷ without n l = cond-false (p.0 == n) l (p ∷ without n l) e in (
      r.0,
      rw c (mathlib.Core.List.Perm.trans (mathlib.Core.List.Perm.cons p r.1) (mathlib.Core.List.Perm.swap (n, r.0) p (without n l))),
    ))
    (cases_Bool (p.0 == n))

-- and without a number that is not held it is the same load
pub not_taken : (n : ℕ) (l : Load) → held n l ≡ false → without n l ≡ l
not_taken n [] h = refl
not_taken n (p ∷ l) h =
    ⊎_elim
    (λ e. let z : ◌≡◌ {A = ℕ} 0 1 = cc (sym (or_here (p.0 == n) (held n l) e) ∙ h) in absurd (omega arith))
    (λ e. cond-false (p.0 == n) l (p ∷ without n l) e ∙ ap (λ (k : Load). p ∷ k) (not_taken n l (sym (or_there (p.0 == n) (held n l) e) ∙ h)))
    (cases_Bool (p.0 == n))

-- a number that was not held comes in once
pub single_more : (k : ℕ) (s : Stop) (l : Load) (n : ℕ) → held k l ≡ false → times n l ≤ 1 → times n ((k, s) ∷ l) ≤ 1
single_more k s l n h i =
    ⊎_elim
    (λ e. let f : times k l ≡ times n l = ap (λ j. times j l) (eqb-true k n e) in omega (arith, times_here (k, s) l n e, held_none k l h))
    (λ e. omega (arith, times_there (k, s) l n e))
    (cases_Bool (k == n))

-- a stop of the load has its number held
pub mem_times : (n : ℕ) (s : Stop) (l : Load) → Memᴰ (n, s) l → 0 < times n l
mem_times n s [] m = absurd (Memᴰ.not-nil m)
mem_times n s (p ∷ l) (Memᴰ.head e) = omega (arith, times_here p l n (eq-eqb p.0 n (sym (ap (λ (x : ℕ × Stop). x.0) e))))
mem_times n s (p ∷ l) (Memᴰ.tail m) =
    ⊎_elim (λ e. omega (arith, times_here p l n e)) (λ e. omega (arith, times_there p l n e, mem_times n s l m)) (cases_Bool (p.0 == n))

-- the load without a number has it once less
pub times_without : (n : ℕ) (l : Load) → held n l ≡ true → times n l ≡ 1 + times n (without n l)
times_without n l h = let p = taken n l h in times_perm l ((n, p.0) ∷ without n l) n p.1 ∙ times_here (n, p.0) (without n l) n (eq-eqb n n refl)

-- so a number that was held once is not held any more
pub gone : (n : ℕ) (l : Load) → times n l ≤ 1 → held n (without n l) ≡ false
gone n l o =
    ⊎_elim
    (λ h. none_held n (without n l) (omega (arith, times_without n l h)))
    (λ h. ap (held n) (not_taken n l h) ∙ h)
    (cases_Bool (held n l))

-- and any other is held as before
pub others : (n k : ℕ) (l : Load) → (n ≢ k) → held k (without n l) ≡ held k l
others n k l apart =
    ⊎_elim
    (λ h.
    let p = taken n l h in
    sym (held_perm l ((n, p.0) ∷ without n l) k p.1 ∙ held_others n p.0 k (without n l) apart))
    (λ h. ap (held k) (not_taken n l h))
    (cases_Bool (held n l))

same_taken : (n : ℕ) (s r : Stop) (a b : Load) → Perm ((n, s) ∷ a) ((n, r) ∷ b) → times n b ≡ 0 → Memᴰ (n, s) ((n, r) ∷ b) → Perm a b
same_taken n s r a b p z (Memᴰ.head e) = mathlib.Core.List.Perm.cons_inv (subst (λ (x : ℕ × Stop). Perm ((n, s) ∷ a) (x ∷ b)) (sym e) p)
same_taken n s r a b p z (Memᴰ.tail m) = absurd (omega (arith, mem_times n s b m))

-- a load in another order, without the same number
pub without_perm : (n : ℕ) (a b : Load) → Perm a b → times n a ≤ 1 → Perm (without n a) (without n b)
without_perm n a b p o =
    ⊎_elim
    (λ h.
    let x = taken n a h in
    let y = taken n b (sym (held_perm a b n p) ∙ h) in
    let q : Perm ((n, x.0) ∷ without n a) ((n, y.0) ∷ without n b) = mathlib.Core.List.Perm.trans (mathlib.Core.List.Perm.symm x.1) (mathlib.Core.List.Perm.trans p y.1) in
    let z : times n (without n b) ≡ 0 = omega (arith, times_without n b (sym (held_perm a b n p) ∙ h), times_perm a b n p) in
    ∥∥₁_elim ((mathlib.Core.List.Perm.mem_iff q).0 mem-cons_self) Perm-prop (λ m. same_taken n x.0 y.0 (without n a) (without n b) q z m))
    (λ h. rw (not_taken n a h, not_taken n b (sym (held_perm a b n p) ∙ h)) p)
    (cases_Bool (held n a))
