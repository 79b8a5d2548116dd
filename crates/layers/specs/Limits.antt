-- The ranges of the layers' figures, each named once.
use Rattle.std.specs.Prelude.{ℕ}

-- a slot has 0 to 256 places
abbrev pub place_limit : ℕ
place_limit = 256

-- a slot's weight limit is 0 to 9999 units
abbrev pub weight_limit : ℕ
weight_limit = 9999
