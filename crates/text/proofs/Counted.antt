-- A line has one field more than it has spaces.
use Rattle.std.proofs.Common.{◌≡◌, ℕ, ◌+◌, ◌-◌, ◌≤◌, Bool, true, false, cond, eqb, List, [], ◌∷◌, length, count_by, refl, arith}
use Rattle.std.proofs.lemmas.List.Recursion.{is_count_by}
use Rattle.text.specs.Parts.{ahead, fields}

ahead_length : (c : ℕ) (ps : List (List ℕ)) → 1 ≤ length ps → length (ahead c ps) ≡ length ps
ahead_length c [] h = absurd (omega arith)
ahead_length c (p ∷ ps) h = refl

step : (c : ℕ) (ps : List (List ℕ)) (b : Bool) → 1 ≤ length ps → length (cond b ([] ∷ ps) (ahead c ps)) ≡ cond b 1 0 + length ps
step c ps true h = omega arith
step c ps false h = omega (arith, ahead_length c ps h)

some_field : (line : List ℕ) → 1 ≤ length (fields line)
some_field [] = omega arith
some_field (c ∷ cs) = omega (arith, step c (fields cs) (eqb c 32) (some_field cs), some_field cs)

less_one : (b : Bool) (m n : ℕ) → 1 ≤ n → m ≡ cond b 1 0 + n → m - 1 ≡ cond b (1 + (n - 1)) (n - 1)
less_one true m n h e = omega arith
less_one false m n h e = omega arith

pub fields_counted : (line : List ℕ) → length (fields line) ≡ count_by (λ b. eqb b 32) line + 1
fields_counted line =
    let counted = is_count_by (λ l. length (fields l) - 1) (λ b. eqb b 32) refl (λ c cs. less_one (eqb c 32) _ _ (some_field cs) (step c (fields cs) (eqb c 32) (some_field cs))) line in
    omega (arith, counted, some_field line)
