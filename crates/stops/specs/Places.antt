-- Places on the grid and the distance between them.
use Rattle.std.specs.Prelude.{◌≡◌, ℕ, ◌+◌, ◌≤◌, ℤ, pos, ◌-ℤ◌, Some, Option, unsigned_abs}
use Rattle.stops.specs.declared.place.Place.{Place}
use Rattle.stops.specs.Limits.{grid_least, grid_most}
use Rattle.stops.specs.Tests.{when_mostZ}

-- the place at x and y, if both are on the grid
abbrev pub place_of : ℤ → ℤ → Option Place
place_of x y =
    when_mostZ grid_least x (λ w. when_mostZ x grid_most (λ e. when_mostZ grid_least y (λ s. when_mostZ y grid_most (λ n.
    Some (record { x = x; y = y; west = w; east = e; south = s; north = n })))))

-- the place at (0, 0)
abbrev pub depot : Place
depot = record { x = pos 0; y = pos 0; west = record { le = tt }; east = record { le = tt }; south = record { le = tt }; north = record { le = tt } }

-- |dx| + |dy|
unfoldable pub distance : Place → Place → ℕ
distance p q = unsigned_abs (p.x -ℤ q.x) + unsigned_abs (p.y -ℤ q.y)

-- what holds of the distance d from p to q
pub record Metric (p q : Place) (d : ℕ) : Type 0 where
  -- it is 0 from a place to itself
  pub same : p ≡ q → d ≡ 0
  -- it is as far back
  pub back : d ≡ distance q p
  -- no detour is shorter
  pub direct : (m : Place) → d ≤ distance p m + distance m q
  -- from corner to corner it is 398
  pub bound : d ≤ 398
