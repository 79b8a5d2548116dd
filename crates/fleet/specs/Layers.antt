-- What a layer makes of the fleet below it.
use Rattle.std.specs.Prelude.{◌≡◌, ℕ, ◌+◌, ◌<◌, min, Bool, true, cond, List, [], ◌∷◌, Some, None, Option}
use mathlib.Core.List.{Perm}
use Rattle.stops.specs.declared.stop.Stop.{Stop}
use Rattle.fleet.specs.Loads.{stops_of}
use Rattle.fleet.specs.Meaning.{Meaning}
use Rattle.fleet.specs.Laws.{Reached}

-- A layer's own rule, over its figures.
pub record Own (Figures : Type 0) : Type 1 where
  -- which stops may be held together
  pub keeps : Figures → List Stop → Type 0
  -- the test of one more stop
  pub admits : Figures → List Stop → Stop → Bool

-- The laws that each own rule proves.
pub record OwnLaws {Figures : Type 0} (o : Own Figures) : Type 0 where
  -- an empty load keeps it
  pub nothing : (f : Figures) → o.keeps f []
  -- it is blind to the order of the stops
  pub blind : (f : Figures) (a b : List Stop) → Perm a b → o.keeps f a → o.keeps f b
  -- stops that keep it keep it without any one of them
  pub fewer : (f : Figures) (s : Stop) (l : List Stop) → o.keeps f (s ∷ l) → o.keeps f l
  -- a stop that passes the test keeps it together with stops that keep it
  pub sound : (f : Figures) (l : List Stop) (s : Stop) → o.keeps f l → o.admits f l s ≡ true → o.keeps f (s ∷ l)
  -- and each stop that does so passes the test
  pub exact : (f : Figures) (l : List Stop) (s : Stop) → o.keeps f (s ∷ l) → o.admits f l s ≡ true

-- a depth as it comes up through one layer: greater by one, but 255 unchanged
abbrev pub up : ℕ → ℕ
up d = min (d + 1) 255

-- an objection from below
abbrev pub deeper : Option ℕ → Option ℕ
deeper None = None
deeper (Some d) = Some (up d)

-- A layer: the rule below together with its own, the standing below, depth 0 where its own test fails.
abbrev pub layered : {Figures Setup Standing : Type 0} → Own Figures → Meaning Setup Standing → Meaning (Figures × Setup) Standing
layered o m = record {
  load = m.load;
  rule = λ u l. o.keeps u.0 l × m.rule u.1 l;
  cleared = λ u. m.cleared u.1;
  objection = λ u t s. cond (o.admits u.0 (stops_of (m.load t)) s) (deeper (m.objection u.1 t s)) (Some 0);
  placed = λ u. m.placed u.1;
  removed = λ u. m.removed u.1;
  routed = m.routed;
  visit = λ u. m.visit u.1;
}

-- When a layer objects, and how deep: no word of tests, only of the own rule and of the objection below.
pub record Objects {Figures Setup Standing : Type 0} (o : Own Figures) (m : Meaning Setup Standing) (u : Figures × Setup) (t : Standing) (s : Stop) : Type 0 where
  -- where the stop would break the own rule, with depth 0
  pub broken : (o.keeps u.0 (s ∷ stops_of (m.load t)) → ⊥) → (layered o m).objection u t s ≡ Some 0
  -- else not at all where the fleet below admits the stop
  pub admitted : o.keeps u.0 (s ∷ stops_of (m.load t)) → m.objection u.1 t s ≡ None → (layered o m).objection u t s ≡ None
  -- with a depth greater by one than below
  pub raised : o.keeps u.0 (s ∷ stops_of (m.load t)) → (d : ℕ) → d < 255 → m.objection u.1 t s ≡ Some d → (layered o m).objection u t s ≡ Some (d + 1)
  -- and with 255 where that is the depth below
  pub deepest : o.keeps u.0 (s ∷ stops_of (m.load t)) → m.objection u.1 t s ≡ Some 255 → (layered o m).objection u t s ≡ Some 255

-- What holds of every layer.
pub record LayerTheorem {Figures Setup Standing : Type 0} (o : Own Figures) (m : Meaning Setup Standing) : Type 0 where
  -- it objects as said above, wherever its calls lead
  pub objects : (u : Figures × Setup) (t : Standing) (s : Stop) → Reached (layered o m) u t → Objects o m u t s
  -- stops that keep its rule keep the rule below
  pub implies : (u : Figures × Setup) (l : List Stop) → (layered o m).rule u l → m.rule u.1 l
  -- wherever its calls lead, the calls of the fleet below lead there too
  pub below : (u : Figures × Setup) (t : Standing) → Reached (layered o m) u t → Reached m u.1 t
