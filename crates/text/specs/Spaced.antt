-- A line written from its fields.
use Rattle.std.specs.Prelude.{ℕ, ◌<◌, List, [], ◌∷◌, ◌++◌, length, ◌≢◌, slice_index}

-- a field with no space in it
abbrev pub Bare : List ℕ → Type 0
Bare f = (k : ℕ) → k < length f → slice_index f k ≢ 32

-- a field, and the others behind it, each after a space
abbrev pub spaced : List ℕ → List (List ℕ) → List ℕ
spaced f [] = f
spaced f (g ∷ gs) = f ++ 32 ∷ spaced g gs

-- the same with byte 10 at its end
abbrev pub spaced_line : List ℕ → List (List ℕ) → List ℕ
spaced_line f [] = f ++ 10 ∷ []
spaced_line f (g ∷ gs) = f ++ 32 ∷ spaced_line g gs
