-- The theorem on van fleets, and the examples.
use Rattle.std.proofs.Common.{◌≡◌, ℕ, List, Some, None, Option, refl, arith}
use native.Mathlib.Decide.{dec_le}
use Rattle.stops.specs.declared.stop.Stop.{Stop}
use Rattle.stops.specs.Places.{distance}
use Rattle.fleet.specs.Loads.{Load}
use Rattle.vans.specs.declared.van.Van.{Van}
use Rattle.vans.specs.Cheapest.{Choice, Fits, Cheapest}
use Rattle.vans.specs.Chosen.{chosen}
use Rattle.vans.specs.Meaning.{objection_of}
use Rattle.vans.specs.Figures.{travel, service, InWindow, in_window}
use Rattle.vans.specs.Rounds.{begin}
use Rattle.vans.specs.Theorem.{VanTheorem}
use Rattle.vans.specs.Examples.{Examples}
use Rattle.vans.specs.RoundFacts.{lawful_without}
use Rattle.vans.specs.Uniqueness.{chosen_cheapest, chosen_is}

found : (vs : List Van) (rs : List Load) (s : Stop) (o : Option Choice) → Cheapest vs rs s o → objection_of o ≡ None → (w : ℕ) × (k : ℕ) × Fits vs rs s w k
found vs rs s None h e = absurd (let z : ◌≡◌ {A = ℕ} 0 1 = cc in omega arith)
found vs rs s (Some c) h e = (c.at.van, c.at.position, h.fits)

taken : (vs : List Van) (rs : List Load) (s : Stop) (o : Option Choice) → Cheapest vs rs s o → (w k : ℕ) → Fits vs rs s w k → objection_of o ≡ None
taken vs rs s None h w k f = absurd (h w k f)
taken vs rs s (Some c) h w k f = refl

pub van_theorem : VanTheorem
van_theorem = record {
  admitted = λ vs rs s e. found vs rs s (chosen vs rs s) (chosen_cheapest vs rs s) e;
  admits = λ vs rs s w k f. taken vs rs s (chosen vs rs s) (chosen_cheapest vs rs s) w k f;
  cheapest = chosen_cheapest;
  unique = chosen_is;
  fewer = lawful_without;
}

pub examples : Examples
unfolding distance travel service InWindow in_window begin dec_le
examples = record { taken = refl; begins = refl; closed = refl }
