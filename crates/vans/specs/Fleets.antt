-- The set-up and the standing of a van fleet, and what its calls make of them.
use Rattle.std.specs.Prelude.{◌≡◌, ℕ, ◌<◌, ◌≤◌, cond, List, [], ◌∷◌, map, length, Some, None, Ok, Err, vec_items, Option, Result, slice_index_or, slice_set}
use Rattle.std.specs.List.{insert}
use Rattle.stops.specs.declared.refusal.Refusal.{Refusal}
use Rattle.stops.specs.declared.stop.Stop.{Stop}
use Rattle.stops.specs.Refusals.{refused}
use Rattle.fleet.specs.Loads.{Load, stops_of, held, without}
use Rattle.vans.specs.declared.van.Van.{Van}
use Rattle.vans.specs.declared.round.Round.{Round}
use Rattle.vans.specs.declared.vanfleet.VanFleet.{VanFleet}
use Rattle.vans.specs.Limits.{van_limit}
use Rattle.vans.specs.Cheapest.{Choice}

-- the stops of a round
abbrev pub stops_in : Round → List Stop
stops_in r = stops_of (vec_items r.visits)

-- the vans of some rounds, and their numbered stops
abbrev pub vans_in : List Round → List Van
vans_in rs = map (λ (r : Round). r.van) rs

abbrev pub rounds_in : List Round → List Load
rounds_in rs = map (λ (r : Round). vec_items r.visits) rs

-- the set-up: the vans in order
abbrev pub vans_of : VanFleet → List Van
vans_of f = vans_in (vec_items f.rounds)

-- the standing: their rounds
abbrev pub rounds_of : VanFleet → List Load
rounds_of f = rounds_in (vec_items f.rounds)

-- an empty round for each van
abbrev pub cleared : List Van → List Load
cleared vs = map (λ (v : Van). []) vs

-- the fleet of these vans, with nothing held; or 17, exactly where there are more than 8
abbrev pub Made : List Van → Result VanFleet Refusal → Type 0
Made vs (Ok f) = (length vs ≤ van_limit) × (vans_of f ≡ vs) × (rounds_of f ≡ cleared vs)
Made vs (Err e) = (van_limit < length vs) × (refused e ≡ (17, []))

-- the rounds with one more stop where the choice says
abbrev pub with_stop : List Load → Option Choice → ℕ → Stop → List Load
with_stop rs None n s = rs
with_stop rs (Some c) n s = slice_set rs c.at.van (insert (slice_index_or rs c.at.van []) c.at.position ((n, s)))

-- the rounds without a number, the rest in order
abbrev pub taken_from : ℕ → List Load → List Load
taken_from n [] = []
taken_from n (r ∷ rs) = cond (held n r) (without n r ∷ rs) (r ∷ taken_from n rs)
