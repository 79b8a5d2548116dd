-- What a field says as a number.
use Rattle.std.specs.Prelude.{ℕ, ◌+◌, ◌-◌, ◌*◌, cond, not, ◌&&◌, ◌||◌, List, [], ◌∷◌, length, drop, ℤ, pos, neg_ℤ, Some, None, Option, ◌==◌, nat_le, slice_index}
use Rattle.std.specs.Option.{option_map}

-- the number that figures write behind n; nothing where a byte is no figure
abbrev pub reading : ℕ → List ℕ → Option ℕ
reading n [] = Some n
reading n (c ∷ cs) = cond (nat_le 48 c && nat_le c 57) (reading (n * 10 + (c - 48)) cs) None

-- 1 to 6 figures, and no 0 in front but in 0 itself
abbrev pub plain : List ℕ → Option ℕ
plain fs = cond (nat_le 1 (length fs) && (nat_le (length fs) 6 && (length fs == 1 || not (slice_index fs 0 == 48)))) (reading 0 fs) None

-- what stands behind a minus sign, which is not 0
abbrev pub negative : List ℕ → Option ℤ
negative fs = cond (slice_index fs 0 == 48) None (option_map (λ n. neg_ℤ (pos n)) (plain fs))

-- a number that may have a minus sign
abbrev pub signed : List ℕ → Option ℤ
signed fs = cond (slice_index fs 0 == 45) (negative (drop 1 fs)) (option_map pos (plain fs))
