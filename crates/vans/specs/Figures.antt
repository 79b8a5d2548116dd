-- A van's minutes on the road and at a stop, and the test of a stop's time window. All proofs on rounds go by the laws of these, and not by what they are.
use Rattle.std.specs.Prelude.{ℕ, ◌≤◌}
use Rattle.std.proofs.Math.Decide.{dec_le}
use Rattle.stops.specs.declared.place.Place.{Place}
use Rattle.stops.specs.declared.stop.Stop.{Stop}
use Rattle.stops.specs.Places.{distance}
use Rattle.vans.specs.declared.van.Van.{Van}
use Rattle.vans.specs.Limits.{service_minutes}

-- the minutes from one place to another
unfoldable pub travel : Van → Place → Place → ℕ
travel v p q = distance p q

-- the minutes of service at a stop
unfoldable pub service : Van → Stop → ℕ
service v s = service_minutes

-- the window test: the stop s may begin at minute b, if that is not after its close
unfoldable pub InWindow : Van → Stop → ℕ → Type 0
InWindow v s b = b ≤ s.hours.closes

-- the last minute that passes the window test
unfoldable pub window_end : Van → Stop → ℕ
window_end v s = s.hours.closes

-- whether a minute passes it
unfoldable pub in_window : (v : Van) (s : Stop) (b : ℕ) → Dec (InWindow v s b)
unfolding InWindow
in_window v s b = dec_le b s.hours.closes
