-- What the fields of a line say.
use Rattle.std.specs.Prelude.{ℕ, cond, List, [], ◌∷◌, ℤ, Some, None, Ok, Err, Option, Result, ◌==◌, option_and_then, slice_index_or}
use Rattle.stops.specs.declared.class.Class.{Class}
use Rattle.stops.specs.declared.class.Class.TheVariants.{Private, Trade}
use Rattle.text.specs.Numbers.{plain, signed}

-- the byte of a field that has just one
abbrev pub only : List ℕ → Option ℕ
only [] = None
only (c ∷ []) = Some c
only (c ∷ d ∷ cs) = None

-- the letter that is the first of these fields
abbrev pub letter_of : List (List ℕ) → Option ℕ
letter_of fs = only (slice_index_or fs 0 [])

-- the value of the field with this index, or else refusal 13 with the index
abbrev pub valued : {X : Type 0} → ℕ → Option X → Result X (ℕ × List ℕ)
valued index None = Err (13, index ∷ [])
valued index (Some x) = Ok x

-- the number in the field with this index
abbrev pub number_at : List (List ℕ) → ℕ → Result ℕ (ℕ × List ℕ)
number_at fs index = valued index (plain (slice_index_or fs index []))

-- the same with an optional minus sign
abbrev pub signed_at : List (List ℕ) → ℕ → Result ℤ (ℕ × List ℕ)
signed_at fs index = valued index (signed (slice_index_or fs index []))

-- P is private, T is trade
abbrev pub class_letter : ℕ → Option Class
class_letter c = cond (c == 80) (Some Private) (cond (c == 84) (Some Trade) None)

abbrev pub class_of : List ℕ → Option Class
class_of cs = option_and_then class_letter (only cs)

-- the class in the field with this index
abbrev pub class_at : List (List ℕ) → ℕ → Result Class (ℕ × List ℕ)
class_at fs index = valued index (class_of (slice_index_or fs index []))
