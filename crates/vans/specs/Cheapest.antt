-- Where a stop may go, and which of those choices is the cheapest.
use Rattle.std.specs.Prelude.{◌≡◌, ℕ, zero, suc, ◌≤◌, List, [], ◌∷◌, length, Some, None, Option}
use Rattle.std.specs.List.{insert}
use Rattle.stops.specs.declared.stop.Stop.{Stop}
use Rattle.fleet.specs.Loads.{Load, stops_of}
use Rattle.vans.specs.declared.van.Van.{Van}
use Rattle.vans.specs.declared.choice.Insertion.{Insertion}
use Rattle.vans.specs.declared.choice.Location.{Location}
use Rattle.vans.specs.Rounds.{Lawful, added_travel}

-- s may lawfully stand at position k of van w's round, the others in their order
abbrev pub Fits : List Van → List Load → Stop → ℕ → ℕ → Type 0
Fits [] [] s w k = ⊥
Fits [] (r ∷ rs) s w k = ⊥
Fits (v ∷ vs) [] s w k = ⊥
Fits (v ∷ vs) (r ∷ rs) s zero k = (k ≤ length (stops_of r)) × Lawful v (insert (stops_of r) k s)
Fits (v ∷ vs) (r ∷ rs) s (suc w) k = Fits vs rs s w k

-- the travel that it adds there
abbrev pub added_at : List Van → List Load → Stop → ℕ → ℕ → ℕ
added_at [] [] s w k = 0
added_at [] (r ∷ rs) s w k = 0
added_at (v ∷ vs) [] s w k = 0
added_at (v ∷ vs) (r ∷ rs) s zero k = added_travel v (stops_of r) k s
added_at (v ∷ vs) (r ∷ rs) s (suc w) k = added_at vs rs s w k

-- a position of some van's round, and the travel that a stop adds there
abbrev pub Choice : Type 0
Choice = Insertion Location

-- The choice c is the cheapest for s.
pub record IsCheapest (vs : List Van) (rs : List Load) (s : Stop) (c : Choice) : Type 0 where
  -- its position is lawful
  pub fits : Fits vs rs s c.at.van c.at.position
  -- it names the travel that s adds there
  pub added : c.added ≡ added_at vs rs s c.at.van c.at.position
  -- no lawful position adds less travel
  pub least : (w k : ℕ) → Fits vs rs s w k → c.added ≤ added_at vs rs s w k
  -- none that adds as little is of a lower van
  pub lowest : (w k : ℕ) → Fits vs rs s w k → added_at vs rs s w k ≡ c.added → c.at.van ≤ w
  -- nor is it earlier in the same round
  pub earliest : (k : ℕ) → Fits vs rs s c.at.van k → added_at vs rs s c.at.van k ≡ c.added → c.at.position ≤ k

-- r is the cheapest choice, or nothing, exactly where no position of any round is lawful
abbrev pub Cheapest : List Van → List Load → Stop → Option Choice → Type 0
Cheapest vs rs s None = (w k : ℕ) → Fits vs rs s w k → ⊥
Cheapest vs rs s (Some c) = IsCheapest vs rs s c
