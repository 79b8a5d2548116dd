-- The search for a number in a load.
use Rattle.std.proofs.Common.{◌≡◌, ℕ, ◌<◌, ◌≤◌, Bool, true, false, ◌||◌, eqb, ltb, [], ◌∷◌, ◌++◌, length, MatchOption, refl, ap, ⊎_elim, arith, rules}
use Rattle.std.specs.List.{position}
use Rattle.std.proofs.lemmas.List.Recursion.{is_position_or_len}
use Rattle.std.proofs.lemmas.Bool.{cases_Bool, ltb-true, ltb-false}
use Rattle.stops.specs.declared.stop.Stop.{Stop}
use Rattle.fleet.specs.Loads.{Load, held, index, First}

-- a number is held in one part or in the other
pub held_append : (n : ℕ) (k l : Load) → held n (k ++ l) ≡ (held n k || held n l)
held_append n [] l = refl
held_append n (y ∷ k) l = elim (eqb y.0 n) as (λ b. (b || held n (k ++ l)) ≡ ((b || held n k) || held n l)) [ true ↦ refl | false ↦ held_append n k l ]

abbrev pub under : ℕ → ℕ × Stop → Bool
under n p = eqb p.0 n

-- the position is in the list where the number is held
found : (n : ℕ) (l : Load) → index n l < length l → First n l (index n l)
found n [] h = absurd (omega arith)
found n (y ∷ l) h =
    ⊎_elim
    (λ e. record { within = h; there = rw e refl; first = refl; rest = rw e refl })
    (λ e. let r = found n l (let g = rw e at h in omega (arith, g)) in record { within = h; there = rw e r.there; first = refl; rest = rw e (ap (λ (m : Load). y ∷ m) r.rest) })
    (cases_Bool (under n y))

-- and its length elsewhere
absent : (n : ℕ) (l : Load) → length l ≤ index n l → held n l ≡ false
absent n [] h = refl
absent n (y ∷ l) h = ⊎_elim (λ e. absurd (let g = rw e at h in omega (arith, g))) (λ e. rw e (absent n l (let g = rw e at h in omega (arith, g)))) (cases_Bool (under n y))

-- a search by the number ends there
pub first_at : (n : ℕ) (l : Load) → MatchOption (position (under n) l) (held n l ≡ false) (First n l)
first_at n l =
    let k = index n l in
    rw (← is_position_or_len (index n) (under n) refl (λ x xs. search rules) l)
    (⊎_elim (λ t. rw t (found n l (ltb-true k (length l) t))) (λ f. rw f (absent n l (ltb-false k (length l) f))) (cases_Bool (ltb k (length l))))
