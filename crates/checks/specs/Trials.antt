-- A stop that is placed on a fleet and taken out again.
use Rattle.std.specs.Prelude.{◌≡◌, ℕ, Result}
use mathlib.Core.List.{Perm}
use Rattle.stops.specs.declared.refusal.Refusal.{Refusal}
use Rattle.stops.specs.declared.stop.Stop.{Stop}
use Rattle.fleet.specs.declared.layer.Layer.{Layer}
use Rattle.fleet.specs.Laws.{Reached}
use Rattle.fleet.specs.Layers.{layered}
use Rattle.fleet.specs.Loads.{stops_of}
use Rattle.fleet.specs.Meaning.{Meaning, after}
use Rattle.fleet.specs.Slotwise.{slotwise}
use Rattle.layers.specs.OwnRules.{Reserve, Weight, reserve, weight}

-- What the trial of stop s under number n leaves, from set-up u and standing t to set-up v and standing w, with the answer r.
pub record Tried {Setup Standing : Type 0} (m : Meaning Setup Standing) (u : Setup) (t : Standing) (n : ℕ) (s : Stop) (r : Result (Unit {0}) Refusal) (v : Setup) (w : Standing) : Type 0 where
  -- done: the standing after a place and its remove; refused: the standing as it was
  pub stands : w ≡ after r (m.removed u (m.placed u t n s) n) t
  -- the same stops are held as before, each under its number
  pub same : Perm (m.load w) (m.load t)
  -- the standing is one that calls lead to
  pub reached : Reached m v w
  -- and what is held keeps the rule
  pub kept : m.rule v (stops_of (m.load w))

-- the same, of a standing that calls lead to
abbrev pub Trial : {Setup Standing : Type 0} → Meaning Setup Standing → Setup → Standing → ℕ → Stop → Result (Unit {0}) Refusal → Setup → Standing → Type 0
Trial m u t n s r v w = Reached m u t → Tried m u t n s r v w

-- a fleet under a weight, and that under a reserve
abbrev pub two_layers : {Setup Standing : Type 0} → Meaning Setup Standing → Meaning (Reserve × (Weight × Setup)) Standing
two_layers m = layered (slotwise reserve) (layered (slotwise weight) m)

-- and its set-up, from that of the fleet
abbrev pub two_setups : {F Setup : Type 0} → (F → Setup) → Layer Reserve (Layer Weight F) → Reserve × (Weight × Setup)
two_setups f p = (p.own, (p.below.own, f p.below.below))
