-- A line put together from words, bytes and numbers.
use Rattle.std.specs.Prelude.{ℕ, List, [], ◌∷◌, ◌++◌, decimal}
use Rattle.std.specs.Fmt.{signed_decimal}
use Rattle.text.specs.declared.piece.Piece.{Piece}
use Rattle.text.specs.declared.piece.Piece.TheVariants.{Word, Bytes, Number, Signed}

-- what is written of a piece
abbrev pub piece : Piece → List ℕ
piece (Word w) = w.now
piece (Bytes b) = b.now
piece (Number n) = decimal n
piece (Signed z) = signed_decimal z

-- the pieces one behind the other, and byte 10
abbrev pub line_of : List Piece → List ℕ
line_of [] = 10 ∷ []
line_of (p ∷ ps) = piece p ++ line_of ps
