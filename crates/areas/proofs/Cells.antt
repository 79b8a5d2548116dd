-- Areas are 0 to 15.
use Rattle.std.proofs.Common.{ℕ, ◌/◌, ◌≤◌, arith}
use Rattle.std.proofs.lemmas.Int.{ints}
use Rattle.stops.specs.declared.place.Place.{Place}
use Rattle.areas.specs.Areas.{area, from_edge}
use Rattle.areas.specs.Limits.{last_area, side}

quarter : (n : ℕ) → n ≤ 199 → n / side ≤ 3
quarter n h = omega arith

pub area_bound : (p : Place) → area p ≤ last_area
unfolding area
area_bound p =
    let x : from_edge p.x ≤ 199 = omega (arith, ints) in
    let y : from_edge p.y ≤ 199 = omega (arith, ints) in
    omega (arith, quarter (from_edge p.x) x, quarter (from_edge p.y) y)
