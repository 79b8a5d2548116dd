-- The limits of lines, each named once.
use Rattle.std.specs.Prelude.{ℕ}
use Rattle.stops.specs.Limits.{slot_limit}
use Rattle.vans.specs.Limits.{van_limit}

-- a line has at most 80 bytes, not counting byte 10
abbrev pub line_bytes : ℕ
line_bytes = 80

-- a set-up has 1 to 12 S lines
abbrev pub slot_lines : ℕ
slot_lines = slot_limit

-- and 1 to 8 V lines
abbrev pub van_lines : ℕ
van_lines = van_limit

-- S open close places kept weight
abbrev pub slot_fields : ℕ
slot_fields = 6

-- V load start end
abbrev pub van_fields : ℕ
van_fields = 4
