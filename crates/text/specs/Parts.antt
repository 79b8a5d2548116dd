-- A text cut into parts at a byte: the fields of a line at its spaces, the lines of an input at byte 10.
use Rattle.std.specs.Prelude.{ℕ, cond, List, [], ◌∷◌, ◌==◌}

-- a byte in front of the first part
abbrev pub ahead : ℕ → List (List ℕ) → List (List ℕ)
ahead c [] = (c ∷ []) ∷ []
ahead c (p ∷ ps) = (c ∷ p) ∷ ps

-- the parts of a text at the byte `at`, where an empty text has the parts `none`
abbrev pub parts : ℕ → List (List ℕ) → List ℕ → List (List ℕ)
parts at none [] = none
parts at none (c ∷ cs) = cond (c == at) ([] ∷ parts at none cs) (ahead c (parts at none cs))

-- the fields of a line, parted by single spaces; an empty line has one empty field
abbrev pub fields : List ℕ → List (List ℕ)
fields line = parts 32 ([] ∷ []) line

-- the lines of an input, each ended by byte 10; a last line without it counts unless it is empty
abbrev pub lines : List ℕ → List (List ℕ)
lines input = parts 10 [] input
