-- What a reader of lines has still to give.
use Rattle.std.specs.Prelude.{ℕ, List}
use Rattle.text.specs.declared.lines.Lines.{Lines}
use Rattle.text.specs.Parts.{lines}

abbrev pub lines_left : Lines → List (List ℕ)
lines_left l = lines l.rest.now
