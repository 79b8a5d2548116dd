-- What a fleet means, and what its calls answer.
use Rattle.std.specs.Prelude.{ℕ, Bool, cond, List, [], ◌∷◌, Some, None, Ok, Err, Option, Result}
use Rattle.stops.specs.declared.stop.Stop.{Stop}
use Rattle.fleet.specs.declared.visit.Visit.{Visit}
use Rattle.fleet.specs.Loads.{Load, held}

-- A kind of fleet, over its set-ups and its standings: these and the arguments fix each answer and the next standing.
pub record Meaning (Setup Standing : Type 0) : Type 1 where
  -- the numbered stops that are held; their order says nothing
  pub load : Standing → Load
  -- which stops may be held together: blind to numbers, as it is given none
  pub rule : Setup → List Stop → Type 0
  -- the standing after making or clearing
  pub cleared : Setup → Standing
  -- nothing, if the stop is admitted, or else the depth of the objection
  pub objection : Setup → Standing → Stop → Option ℕ
  -- the standing after a stop was placed under a number
  pub placed : Setup → Standing → ℕ → Stop → Standing
  -- the standing after the stop under a number was removed
  pub removed : Setup → Standing → ℕ → Standing
  -- whether it names a visit for each number that is held
  pub routed : Bool
  -- the visit of a number
  pub visit : Setup → Standing → ℕ → Option Visit

-- an objection as an answer: 7 with the depth
abbrev pub unless_objected : Option ℕ → Result (Unit {0}) (ℕ × List ℕ)
unless_objected None = Ok tt
unless_objected (Some d) = Err (7, d ∷ [])

-- what place answers: 19 if the number is held, else 7 with the depth if there is an objection
abbrev pub place_answer : {Setup Standing : Type 0} → Meaning Setup Standing → Setup → Standing → ℕ → Stop → Result (Unit {0}) (ℕ × List ℕ)
place_answer m u t n s = cond (held n (m.load t)) (Err (19, [])) (unless_objected (m.objection u t s))

-- what remove answers: 20 if the number is not held
abbrev pub remove_answer : {Setup Standing : Type 0} → Meaning Setup Standing → Standing → ℕ → Result (Unit {0}) (ℕ × List ℕ)
remove_answer m t n = cond (held n (m.load t)) (Ok tt) (Err (20, []))

-- what a call leaves: the new value where it was done, and the old one where it was refused
abbrev pub after : {E X : Type 0} → Result (Unit {0}) E → X → X → X
after (Ok _) new old = new
after (Err _) new old = old
