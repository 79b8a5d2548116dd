-- What is written is read back.
use Rattle.std.proofs.Common.{◌≡◌, ℕ, zero, suc, ◌+◌, ◌-◌, ◌*◌, ◌/◌, ◌%◌, ◌^◌, ◌<◌, ◌≤◌, true, false, cond, not, ◌&&◌, ◌||◌, eqb, leb, List, [], ◌∷◌, ◌++◌, length, get_or, ℤ, pos, negsuc, Some, None, decimal, sym, refl, ap, ◌∙◌, arith, ne_eqb}
use lib.Signed.{mag}
use Rattle.std.specs.Fmt.{signed_decimal}
use Rattle.std.specs.List.{All, AllByRecursion}
use Rattle.std.proofs.lemmas.Fmt.{decimal_by_steps, decimal_digit, decimal_nonempty, decimal_is_IsNumeral, first_decimal, length-decimal-le}
use Rattle.std.proofs.lemmas.List.Elements.{All-from_get_or}
use Rattle.std.proofs.lemmas.List.Splits.{slice_split_at, slice_split_none}
use Rattle.std.proofs.lemmas.Option.{none-some}
use Rattle.std.proofs.lemmas.Str.Parse.{digit_at}
use Rattle.std.proofs.lemmas.Bool.Decides.{nat_tests}
use Rattle.text.specs.Numbers as numbers
use Rattle.text.specs.Numbers.{negative, plain, reading}
use Rattle.text.specs.Parts.{fields}
use Rattle.text.specs.Spaced.{Bare, spaced}
use Rattle.text.proofs.Split.{fields_split}

-- ---- a number
reading_push : (m : ℕ) (ds : List ℕ) (c v : ℕ) → reading m ds ≡ Some v → 48 ≤ c → c ≤ 57 → reading m (ds ++ c ∷ []) ≡ Some (v * 10 + (c - 48))
reading_push m [] c v e h k = grind (arith, nat_tests)
reading_push m (d ∷ ds) c v e h k =
    elim (leb 48 d && leb d 57) as (λ b. cond b (reading (m * 10 + (d - 48)) ds) None ≡ Some v → cond b (reading (m * 10 + (d - 48)) (ds ++ c ∷ [])) None ≡ Some (v * 10 + (c - 48)))
    [ true ↦ λ f. reading_push (m * 10 + (d - 48)) ds c v f h k | false ↦ λ f. absurd (none-some v f) ] e

one_figure : (k : ℕ) → k < 10 → reading 0 ((48 + k) ∷ []) ≡ Some k
one_figure k lt = grind (arith, nat_tests)

reading_decimal : (n : ℕ) → n < 2 ^ 64 → reading 0 (decimal n) ≡ Some n
reading_decimal n h =
    decimal_by_steps (λ k ds. reading 0 ds ≡ Some k) one_figure (λ k ds big e. reading_push 0 ds (48 + k % 10) (k / 10) e (omega arith) (omega arith) ∙ ap Some (omega arith)) n h

fits : (n : ℕ) → n < 1000000 → leb 1 (length (decimal n)) && (leb (length (decimal n)) 6 && (eqb (length (decimal n)) 1 || not (eqb (get_or (decimal n) 0 0) 48))) ≡ true
fits n h = grind (arith, nat_tests, decimal_nonempty, length-decimal-le 6, decimal_digit, first_decimal)

-- the figures of a number below a million are read as that number
pub plain_decimal : (n : ℕ) → n < 1000000 → plain (decimal n) ≡ Some n
plain_decimal n h = ap (λ b. cond b (reading 0 (decimal n)) None) (fits n h) ∙ reading_decimal n (omega arith)

-- its first byte is a figure
digit_first : (n : ℕ) → n < 2 ^ 64 → 48 ≤ get_or (decimal n) 0 0
digit_first n h = omega (arith, digit_at (decimal n) 0 (decimal_is_IsNumeral n h).0.1 (decimal_nonempty n h))

-- a number that may be negative, likewise
pub signed_back : (z : ℤ) → mag z + 1 < 1000000 → numbers.signed (signed_decimal z) ≡ Some z
signed_back (pos n) h =
    let first = digit_first n (omega arith) in
    let back = plain_decimal n (omega arith) in
    grind (arith, nat_tests)
signed_back (negsuc n) h =
    let first = first_decimal (suc n) (omega arith) (omega arith) in
    let back = plain_decimal (suc n) (omega arith) in
    grind (arith, nat_tests)

-- ---- fields
-- the figures of a number have no space
pub bare_decimal : (n : ℕ) → n < 2 ^ 64 → Bare (decimal n)
bare_decimal n h k lt e = omega (arith, digit_at (decimal n) k (decimal_is_IsNumeral n h).0.1 lt, e)

pub bare_signed : (z : ℤ) → mag z + 1 < 2 ^ 63 → Bare (signed_decimal z)
bare_signed (pos n) h k lt e = bare_decimal n (omega arith) k lt e
bare_signed (negsuc n) h zero lt e = absurd (omega (arith, e))
bare_signed (negsuc n) h (suc k) lt e = bare_decimal (suc n) (omega arith) k (omega arith) e

-- no byte of it is a cut
uncut : (f : List ℕ) → Bare f → All (λ b. eqb b 32 ≡ false) f
uncut f bare = All-from_get_or (λ b. eqb b 32 ≡ false) f 0 (λ k lt. ne_eqb (get_or f k 0) 32 (bare k lt))

-- a line written from its fields has just these fields
pub fields_spaced : (f : List ℕ) (gs : List (List ℕ)) → Bare f → AllByRecursion Bare gs → fields (spaced f gs) ≡ f ∷ gs
fields_spaced f [] b bs = fields_split f ∙ slice_split_none _ f (uncut f b)
fields_spaced f (g ∷ gs) b bs =
    fields_split (f ++ 32 ∷ spaced g gs) ∙ slice_split_at _ f 32 (spaced g gs) (uncut f b) refl ∙ ap (λ hs. f ∷ hs) (sym (fields_split (spaced g gs)) ∙ fields_spaced g gs bs.0 bs.1)
