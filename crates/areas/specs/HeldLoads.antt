-- What a fleet means that holds its load in a list, under an admission rule.
use Rattle.std.specs.Prelude.{◌≡◌, ℕ, false, cond, [], ◌∷◌, ◌++◌, Some, None}
use Rattle.stops.specs.declared.stop.Stop.{Stop}
use Rattle.fleet.specs.Laws.{Reached}
use Rattle.fleet.specs.Layers.{Own}
use Rattle.fleet.specs.Loads.{Load, held, stops_of, without}
use Rattle.fleet.specs.Meaning.{Meaning}

-- The standing is the load: a stop is added at its end and taken out in place. Depth 0 where the test fails.
abbrev pub load_holding : {Figures : Type 0} → Own Figures → Meaning Figures Load
load_holding o = record {
  load = λ t. t;
  rule = o.keeps;
  cleared = λ u. [];
  objection = λ u t s. cond (o.admits u (stops_of t) s) None (Some 0);
  placed = λ u t n s. t ++ (n, s) ∷ [];
  removed = λ u t n. without n t;
  routed = false;
  visit = λ u t n. None;
}

-- What holds of every such fleet: no word of tests, only of the rule.
pub record HoldingTheorem {Figures : Type 0} (o : Own Figures) : Type 0 where
  -- wherever its calls lead, it admits each stop that keeps the rule together with the load
  pub admitted : (u : Figures) (t : Load) (s : Stop) → Reached (load_holding o) u t → o.keeps u (s ∷ stops_of t) → (load_holding o).objection u t s ≡ None
  -- and objects to any other with depth 0
  pub objected : (u : Figures) (t : Load) (s : Stop) → Reached (load_holding o) u t → (o.keeps u (s ∷ stops_of t) → ⊥) → (load_holding o).objection u t s ≡ Some 0
  -- a remove right after a place of a number that was not held gives back the earlier standing
  pub restored : (u : Figures) (t : Load) (n : ℕ) (s : Stop) → held n t ≡ false → (load_holding o).removed u ((load_holding o).placed u t n s) n ≡ t
