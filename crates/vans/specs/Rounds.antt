-- When a round is lawful, and the travel that one more stop adds to it.
use Rattle.std.specs.Prelude.{ℕ, ◌+◌, ◌-◌, ◌≤◌, max, List, [], ◌∷◌, length, take, drop, sum_by}
use Rattle.stops.specs.declared.place.Place.{Place}
use Rattle.stops.specs.declared.stop.Stop.{Stop}
use Rattle.stops.specs.Places.{depot}
use Rattle.vans.specs.declared.van.Van.{Van}
use Rattle.vans.specs.Limits.{stop_limit}
use Rattle.vans.specs.Figures.{travel, service, InWindow}

-- the begin of a stop, for a van that leaves the place p at minute t: the later of arrival and open
unfoldable pub begin : Van → Place → ℕ → Stop → ℕ
begin v p t s = max (t + travel v p s.place) s.hours.opens

-- a van that leaves the place p at minute t begins each of these stops in its window and is back at the depot by its end
abbrev pub OnTime : Van → Place → ℕ → List Stop → Type 0
OnTime v p t [] = t + travel v p depot ≤ v.end
OnTime v p t (s ∷ l) = InWindow v s (begin v p t s) × OnTime v s.place (begin v p t s + service v s) l

-- the units of all stops
abbrev pub total_units : List Stop → ℕ
total_units l = sum_by (λ (s : Stop). s.units) l

-- A lawful round of a van.
pub record Lawful (v : Van) (l : List Stop) : Type 0 where
  -- at most 24 stops
  pub short : length l ≤ stop_limit
  -- units within the van's limit
  pub light : total_units l ≤ v.limit
  -- on time from the depot, which the van leaves at its start
  pub timely : OnTime v depot v.start l

-- the begins of all stops in turn
abbrev pub begins : Van → Place → ℕ → List Stop → List ℕ
begins v p t [] = []
begins v p t (s ∷ l) = begin v p t s ∷ begins v s.place (begin v p t s + service v s) l

-- where a van stands after some stops
abbrev pub last_place : Place → List Stop → Place
last_place p [] = p
last_place p (s ∷ l) = last_place s.place l

-- where it drives next: to the first of these stops, or to the depot
abbrev pub next_place : List Stop → Place
next_place [] = depot
next_place (s ∷ l) = s.place

-- the travel that the stop s adds between the places p and q
abbrev pub detour : Van → Place → Stop → Place → ℕ
detour v p s q = travel v p s.place + travel v s.place q - travel v p q

-- the travel that s adds at position k of a round: between the stops before and behind, or the depot
abbrev pub added_travel : Van → List Stop → ℕ → Stop → ℕ
added_travel v l k s = detour v (last_place depot (take k l)) s (next_place (drop k l))
