-- The test of one more stop in a round: constant time for a position, after a pass of latest begins.
use Rattle.std.specs.Prelude.{ℕ, ◌+◌, ◌-◌, ◌<◌, ◌≤◌, min, List, [], ◌∷◌, length, Option}
use Rattle.std.specs.List.{insert}
use Rattle.stops.specs.declared.place.Place.{Place}
use Rattle.stops.specs.declared.stop.Stop.{Stop}
use Rattle.vans.specs.declared.van.Van.{Van}
use Rattle.vans.specs.declared.choice.Insertion.{Insertion}
use Rattle.vans.specs.declared.leg.Arrival.{Arrival}
use Rattle.vans.specs.Figures.{travel, service, InWindow, window_end}
use Rattle.vans.specs.Rounds.{begin, Lawful, next_place, added_travel}
use Rattle.vans.specs.Better.{Least}

-- the minute at which a van leaves the last of some stops
abbrev pub leaving : Van → Place → ℕ → List Stop → ℕ
leaving v p t [] = t
leaving v p t (s ∷ l) = leaving v s.place (begin v p t s + service v s) l

-- the latest begin of s, for a van that must reach the place q by minute z
abbrev pub latest_begin : Van → Stop → Place → ℕ → ℕ
latest_begin v s q z = min (window_end v s) (z - (service v s + travel v s.place q))

-- the latest begin of the first of these stops that leaves the rest on time; at the depot, the van's end
abbrev pub latest : Van → List Stop → ℕ
latest v [] = v.end
latest v (s ∷ l) = latest_begin v s (next_place l) (latest v l)

-- where the van drives next, before some stops, and the minute by which it must be there
abbrev pub arrival : Van → List Stop → Arrival
arrival v l = record { to = next_place l; by = latest v l }

-- a van that leaves p at minute t can begin s in its window, and then reach the place q by minute z
abbrev pub Insertable : Van → Place → ℕ → Stop → Place → ℕ → Type 0
Insertable v p t s q z = InWindow v s (begin v p t s) × (begin v p t s + service v s + travel v s.place q ≤ z)

-- the cheapest lawful position for s in a round: none is lawful, or no lawful one adds less travel, and no earlier one as little
abbrev pub Best : Van → List Stop → Stop → Option (Insertion ℕ) → Type 0
Best v l s r = Least (λ k. (k ≤ length l) × Lawful v (insert l k s)) (λ k. added_travel v l k s) ◌<◌ r
