-- The areas of the grid.
use Rattle.std.specs.Prelude.{ℕ, ◌+◌, ◌*◌, ◌/◌, ℤ, ◌-ℤ◌, unsigned_abs}
use Rattle.stops.specs.Limits.{grid_least}
use Rattle.stops.specs.declared.place.Place.{Place}
use Rattle.areas.specs.Limits.{row, side}

-- x + 100 or y + 100: how far from the edge of the grid, 0 to 199 cells
abbrev pub from_edge : ℤ → ℕ
from_edge z = unsigned_abs (z -ℤ grid_least)

-- the area of a place, by whole division
unfoldable pub area : Place → ℕ
area p = row * (from_edge p.y / side) + from_edge p.x / side
