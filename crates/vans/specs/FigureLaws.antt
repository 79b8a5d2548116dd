-- Laws of a van's minutes and of the window test. Besides these, only the functions that compute them and the examples look inside their definitions.
use Rattle.std.specs.Prelude.{◌≡◌, ℕ, ◌+◌, ◌≤◌}
use Rattle.std.proofs.Math.Bridge.{le_prop}
use native.Mathlib.Omega.{arith}
use Rattle.stops.specs.declared.place.Place.{Place}
use Rattle.stops.specs.declared.stop.Stop.{Stop}
use Rattle.stops.proofs.Distances.{distance_triangle, distance_self}
use Rattle.vans.specs.declared.van.Van.{Van}
use Rattle.vans.specs.Figures.{travel, InWindow, window_end}

module _ (v : Van) where
  -- no detour is shorter
  pub travel_triangle : (p q r : Place) → travel v p r ≤ travel v p q + travel v q r
  unfolding travel
  travel_triangle p q r = distance_triangle p q r

  pub travel_self : (p : Place) → travel v p p ≡ 0
  unfolding travel
  travel_self p = distance_self p

  -- an earlier begin passes the window test too
  pub window_earlier : (s : Stop) (b c : ℕ) → InWindow v s c → b ≤ c → InWindow v s b
  unfolding InWindow
  window_earlier s b c h le = omega arith

  -- what passes is not after the window's end
  pub window_last : (s : Stop) (b : ℕ) → InWindow v s b → b ≤ window_end v s
  unfolding InWindow window_end
  window_last s b h = h

  -- and, if anything passes, what is not after its end passes
  pub window_within : (s : Stop) (b c : ℕ) → InWindow v s c → b ≤ window_end v s → InWindow v s b
  unfolding InWindow window_end
  window_within s b c h le = le

  -- nothing passes after close
  pub window_close : (s : Stop) (b : ℕ) → InWindow v s b → b ≤ s.hours.closes
  unfolding InWindow
  window_close s b h = h

  pub window_prop : (s : Stop) (b : ℕ) → IsProp (InWindow v s b)
  unfolding InWindow
  window_prop s b = le_prop
