-- The choice of a van fleet for a stop, computed from the definition of a lawful round.
use Rattle.std.specs.Prelude.{ℕ, zero, suc, ◌+◌, ◌≤◌, Bool, true, false, cond, List, [], ◌∷◌, length, Some, None, Option}
use Rattle.std.specs.Option.{option_map}
use Rattle.std.proofs.Math.Decide.{dec_le}
use Rattle.std.specs.List.{insert}
use Rattle.stops.specs.declared.place.Place.{Place}
use Rattle.stops.specs.declared.stop.Stop.{Stop}
use Rattle.stops.specs.Places.{depot}
use Rattle.fleet.specs.Loads.{Load, stops_of}
use Rattle.vans.specs.declared.van.Van.{Van}
use Rattle.vans.specs.declared.choice.Insertion.{Insertion}
use Rattle.vans.specs.declared.choice.Location.{Location}
use Rattle.vans.specs.Limits.{stop_limit}
use Rattle.vans.specs.Figures.{travel, service, in_window}
use Rattle.vans.specs.Rounds.{begin, OnTime, total_units, added_travel}
use Rattle.vans.specs.Better.{better, moved}
use Rattle.vans.specs.Cheapest.{Choice}

-- whether a fact that can be decided holds
abbrev pub decided : {P : Type 0} → Dec P → Bool
decided (yes p) = true
decided (no q) = false

-- whether two facts hold
abbrev pub both : {P Q : Type 0} → Dec P → Dec Q → Dec (P × Q)
both (yes p) (yes q) = yes (p, q)
both (yes p) (no q) = no (λ w. q w.1)
both (no p) d = no (λ w. p w.0)

-- whether a van is on time
abbrev pub on_time : (v : Van) (p : Place) (t : ℕ) (l : List Stop) → Dec (OnTime v p t l)
on_time v p t [] = dec_le (t + travel v p depot) v.end
on_time v p t (s ∷ l) = both (in_window v s (begin v p t s)) (on_time v s.place (begin v p t s + service v s) l)

-- whether a round is lawful
abbrev pub lawful : (v : Van) (l : List Stop) → Dec ((length l ≤ stop_limit) × ((total_units l ≤ v.limit) × OnTime v depot v.start l))
lawful v l = both (dec_le (length l) stop_limit) (both (dec_le (total_units l) v.limit) (on_time v depot v.start l))

-- position k of a round, if s may lawfully stand there
abbrev pub candidate : Van → List Stop → Stop → ℕ → Option (Insertion ℕ)
candidate v l s k = cond (decided (lawful v (insert l k s))) (Some (record { at = k; added = added_travel v l k s })) None

-- the cheapest of the first n positions of a round
abbrev pub best_below : Van → List Stop → Stop → ℕ → Option (Insertion ℕ)
best_below v l s zero = None
best_below v l s (suc n) = better (best_below v l s n) (candidate v l s n)

-- the cheapest lawful position of a round
abbrev pub best : Van → List Stop → Stop → Option (Insertion ℕ)
best v l s = best_below v l s (suc (length l))

-- a position of the first van's round
abbrev pub first_van : ℕ → Location
first_van k = record { van = zero; position = k }

-- a position of a later van's round, by the van's number among all
abbrev pub later_van : Location → Location
later_van t = record { van = suc t.van; position = t.position }

-- the cheapest lawful position over all vans: the first van's, unless that of the later ones adds less
abbrev pub chosen : List Van → List Load → Stop → Option Choice
chosen [] [] s = None
chosen [] (r ∷ rs) s = None
chosen (v ∷ vs) [] s = None
chosen (v ∷ vs) (r ∷ rs) s = better (option_map (moved first_van) (best v (stops_of r) s)) (option_map (moved later_van) (chosen vs rs s))
