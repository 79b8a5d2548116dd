-- The ranges of the values, each named once.
use Rattle.std.specs.Prelude.{ℕ, ℤ, pos, negsuc}

-- x and y of a place are from -100 to 99
abbrev pub grid_least : ℤ
grid_least = negsuc 99

abbrev pub grid_most : ℤ
grid_most = pos 99

-- the minutes of the delivery day are 0 to 1439
abbrev pub last_minute : ℕ
last_minute = 1439

-- a table has 1 to 12 slots
abbrev pub slot_limit : ℕ
slot_limit = 12

-- slots are numbered from 0 to 11
abbrev pub last_slot : ℕ
last_slot = 11

-- a stop has 1 to 200 units
abbrev pub unit_limit : ℕ
unit_limit = 200
