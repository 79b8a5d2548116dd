-- What holds of every van fleet, in the subject's words.
use Rattle.std.specs.Prelude.{◌≡◌, ℕ, List, ◌∷◌, ◌++◌, None, Option}
use Rattle.stops.specs.declared.stop.Stop.{Stop}
use Rattle.fleet.specs.Loads.{Load}
use Rattle.vans.specs.declared.van.Van.{Van}
use Rattle.vans.specs.Rounds.{Lawful}
use Rattle.vans.specs.Cheapest.{Choice, Fits, Cheapest}
use Rattle.vans.specs.Chosen.{chosen}
use Rattle.vans.specs.Meaning.{van_meaning}

pub record VanTheorem : Type 0 where
  -- a stop that is admitted has a lawful position in some round
  pub admitted : (vs : List Van) (rs : List Load) (s : Stop) → van_meaning.objection vs rs s ≡ None → (w : ℕ) × (k : ℕ) × Fits vs rs s w k
  -- and each stop that has one is admitted
  pub admits : (vs : List Van) (rs : List Load) (s : Stop) (w k : ℕ) → Fits vs rs s w k → van_meaning.objection vs rs s ≡ None
  -- it goes to the cheapest lawful position
  pub cheapest : (vs : List Van) (rs : List Load) (s : Stop) → Cheapest vs rs s (chosen vs rs s)
  -- and no other choice is that
  pub unique : (vs : List Van) (rs : List Load) (s : Stop) (o : Option Choice) → Cheapest vs rs s o → o ≡ chosen vs rs s
  -- a lawful round stays lawful without any one of its stops
  pub fewer : (v : Van) (k : List Stop) (s : Stop) (l : List Stop) → Lawful v (k ++ s ∷ l) → Lawful v (k ++ l)
