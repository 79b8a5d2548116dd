-- The limits of the area fleet, each named once.
use Rattle.std.specs.Prelude.{ℕ}

-- a load has at most 256 stops
abbrev pub stop_limit : ℕ
stop_limit = 256

-- there are 16 areas
abbrev pub area_limit : ℕ
area_limit = 16

-- numbered from 0 to 15
abbrev pub last_area : ℕ
last_area = 15

-- 4 areas lie side by side
abbrev pub row : ℕ
row = 4

-- an area is 50 cells wide and high
abbrev pub side : ℕ
side = 50

-- a quota is 0 to 40 stops
abbrev pub quota_limit : ℕ
quota_limit = 40
