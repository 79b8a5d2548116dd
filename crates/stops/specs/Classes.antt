-- The letter that stands for a class in commands and sheets.
use Rattle.std.specs.Prelude.{ℕ, List, codes}
use Rattle.stops.specs.declared.class.Class.{Class}
use Rattle.stops.specs.declared.class.Class.TheVariants.{Private, Trade}

abbrev pub letter : Class → List ℕ
letter Private = codes "P"
letter Trade = codes "T"
