-- The laws that each fleet proves.
use Rattle.std.specs.Prelude.{◌≡◌, ℕ, ◌≤◌, true, false, List, [], ◌∷◌, Some, None, Option}
use mathlib.Core.List.{Perm, Mem}
use Rattle.stops.specs.declared.stop.Stop.{Stop}
use Rattle.fleet.specs.declared.visit.Visit.{Visit}
use Rattle.fleet.specs.Loads.{stops_of, times, held, without}
use Rattle.fleet.specs.Meaning.{Meaning}

-- The standings that a fleet comes to: from making or clearing on, by places and removes that were not refused.
pub data Reached {Setup Standing : Type 0} (m : Meaning Setup Standing) (u : Setup) : Standing → Type 0 where
  start : Reached m u (m.cleared u)
  place : {t : Standing} {n : ℕ} {s : Stop} → Reached m u t → held n (m.load t) ≡ false → m.objection u t s ≡ None → Reached m u (m.placed u t n s)
  remove : {t : Standing} {n : ℕ} → Reached m u t → held n (m.load t) ≡ true → Reached m u (m.removed u t n)

-- there is a visit, and its minute is from open to close of the stop
abbrev pub Within : Stop → Option Visit → Type 0
Within s None = ⊥
Within s (Some v) = (s.hours.opens ≤ v.minute) × (v.minute ≤ s.hours.closes)

pub record Laws {Setup Standing : Type 0} (m : Meaning Setup Standing) : Type 0 where
  -- making and clearing leave an empty load
  pub empty : (u : Setup) → m.load (m.cleared u) ≡ []
  -- the load has no number twice
  pub single : (u : Setup) (t : Standing) (n : ℕ) → Reached m u t → times n (m.load t) ≤ 1
  -- by a place that was done the load gains that stop under that number, and no other change
  pub gains : (u : Setup) (t : Standing) (n : ℕ) (s : Stop) → Reached m u t → held n (m.load t) ≡ false → m.objection u t s ≡ None → Perm ((n, s) ∷ m.load t) (m.load (m.placed u t n s))
  -- by a remove that was done the load loses the stop under that number, and no other
  pub loses : (u : Setup) (t : Standing) (n : ℕ) → Reached m u t → held n (m.load t) ≡ true → Perm (without n (m.load t)) (m.load (m.removed u t n))
  -- the rule is blind to the order of the stops
  pub blind : (u : Setup) (a b : List Stop) → Perm a b → m.rule u a → m.rule u b
  -- stops that keep the rule keep it without any one of them
  pub fewer : (u : Setup) (s : Stop) (l : List Stop) → m.rule u (s ∷ l) → m.rule u l
  -- the load that is held keeps the rule
  pub keeps : (u : Setup) (t : Standing) → Reached m u t → m.rule u (stops_of (m.load t))
  -- a stop that is admitted keeps the rule together with the load
  pub admits : (u : Setup) (t : Standing) (s : Stop) → Reached m u t → m.objection u t s ≡ None → m.rule u (s ∷ stops_of (m.load t))
  -- an empty load admits exactly the stops that keep the rule alone
  pub alone : (u : Setup) (t : Standing) (s : Stop) → Reached m u t → m.load t ≡ [] → (m.rule u (s ∷ []) → m.objection u t s ≡ None) × (m.objection u t s ≡ None → m.rule u (s ∷ []))
  -- a routed fleet names, for each number that is held, a visit from open to close of its stop
  pub visits : (u : Setup) (t : Standing) (n : ℕ) (s : Stop) → m.routed ≡ true → Reached m u t → Mem (n, s) (m.load t) → Within s (m.visit u t n)
  -- and none for any other number
  pub strays : (u : Setup) (t : Standing) (n : ℕ) → m.routed ≡ true → Reached m u t → held n (m.load t) ≡ false → m.visit u t n ≡ None
