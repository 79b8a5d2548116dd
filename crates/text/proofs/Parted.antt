-- How an input is cut into its lines.
use Rattle.std.proofs.Common.{◌≡◌, ℕ, suc, ◌+◌, ◌-◌, ◌<◌, Bool, true, false, cond, not, eqb, List, [], ◌∷◌, length, take, drop, Some, None, refl, ap, arith, add-one}
use Rattle.std.specs.List.{position, position_or_len}
use Rattle.std.proofs.lemmas.List.{take_rest}
use Rattle.std.proofs.lemmas.Bool.Decides.{nat_tests}
use Rattle.std.proofs.lemmas.Option.{cond_some}
use Rattle.text.specs.Parts.{ahead, lines}

abbrev newline : ℕ → Bool
newline b = eqb b 10

abbrev at : List ℕ → ℕ
at bs = position_or_len newline bs

-- where a byte 10 stands
first : (bs : List ℕ) → at bs < length bs → lines bs ≡ take (at bs) bs ∷ lines (drop (suc (at bs)) bs)
first [] h = absurd (omega arith)
first (c ∷ cs) h =
    let next : 1 + at cs ≡ suc (at cs) = omega arith in
    elim (eqb c 10) as (λ b. cond (not b) (1 + at cs) 0 < length (c ∷ cs) → cond b ([] ∷ lines cs) (ahead c (lines cs)) ≡ take (cond (not b) (1 + at cs) 0) (c ∷ cs) ∷ lines (drop (cond (not b) (1 + at cs) 0) cs))
    [ true ↦ λ k. refl | false ↦ λ k. rw next (ap (ahead c) (first cs (omega (arith, k)))) ] h

-- where none does
whole : (c : ℕ) (cs : List ℕ) → length cs < at (c ∷ cs) → lines (c ∷ cs) ≡ (c ∷ cs) ∷ []
whole c [] h = elim (eqb c 10) as (λ b. 0 < cond (not b) 1 0 → cond b ([] ∷ []) (ahead c []) ≡ (c ∷ []) ∷ []) [ true ↦ λ k. absurd (omega (arith, k)) | false ↦ λ k. refl ] h
whole c (d ∷ cs) h =
    elim (eqb c 10) as (λ b. length (d ∷ cs) < cond (not b) (1 + at (d ∷ cs)) 0 → cond b ([] ∷ lines (d ∷ cs)) (ahead c (lines (d ∷ cs))) ≡ (c ∷ d ∷ cs) ∷ [])
    [ true ↦ λ k. absurd (omega (arith, k)) | false ↦ λ k. ap (ahead c) (whole d cs (omega (arith, k))) ] h

-- as the checker reads `&bs[..n]` and `&bs[n + 1..]`
pub line_cut : (bs : List ℕ) (n : ℕ) → position newline bs ≡ Some n → lines bs ≡ take n bs ∷ lines (take (length bs - (n + 1)) (drop (n + 1) bs))
line_cut bs n e = let found = cond_some _ _ _ e in rw (take_rest bs (n + 1), add-one n, ← found.1) (first bs (grind (arith, nat_tests)))

pub line_whole : (bs : List ℕ) → position newline bs ≡ None → (length bs ≡ 0 → ⊥) → lines bs ≡ bs ∷ []
line_whole [] e some = absurd (some refl)
line_whole (c ∷ cs) e some = whole c cs (grind (arith, nat_tests))
