-- The plan: a line of names, and the visits of the standing confirmations in order of minute, van and number.
use Rattle.std.specs.Prelude.{ℕ, suc, Bool, cond, ◌&&◌, ◌||◌, List, [], ◌∷◌, ◌++◌, Some, None, codes, decimal, Option, ◌==◌, nat_le, nat_lt}
use mathlib.Core.List.{Perm}
use Rattle.std.specs.List.{flat_map}
use Rattle.fleet.specs.declared.visit.Visit.{Visit}
use Rattle.queue.specs.declared.visit.PlannedVisit.{PlannedVisit}
use Rattle.queue.specs.Entries.{VisitNoLater}
use Rattle.queue.specs.Orders.{InOrder}
use Rattle.calls.specs.declared.record.Record.{Record}
use Rattle.calls.specs.Records.{is_confirmed}

abbrev pub plan_names : List ℕ
plan_names = codes "minute,van,number" ++ 10 ∷ []

-- minute,van,number
abbrev pub visit_line : PlannedVisit → List ℕ
visit_line v = decimal v.minute ++ (codes "," ++ (decimal v.van ++ (codes "," ++ (decimal v.number ++ 10 ∷ []))))

-- a visit that the fleet names, under its number
abbrev pub named_visit : ℕ → Option Visit → Option PlannedVisit
named_visit n None = None
named_visit n (Some v) = Some (record { minute = v.minute; van = v.van; number = n })

-- one visit more, if there is one
abbrev pub with_visit : Option PlannedVisit → List PlannedVisit → List PlannedVisit
with_visit None l = l
with_visit (Some v) l = v ∷ l

module _ (visit : ℕ → Option Visit) where
  -- the visit of a number, if that is confirmed
  abbrev pub planned : ℕ → Option Record → Option PlannedVisit
  planned n None = None
  planned n (Some r) = cond (is_confirmed (Some r.state)) (named_visit n (visit n)) None

  -- the visits of the confirmed numbers, where the first record is that of number k
  abbrev pub visits_from : ℕ → List Record → List PlannedVisit
  visits_from k [] = []
  visits_from k (r ∷ rs) = with_visit (planned k (Some r)) (visits_from (suc k) rs)

-- x is visited no later than y: by minute, then van, then number
abbrev pub no_later : PlannedVisit → PlannedVisit → Bool
no_later x y = nat_lt x.minute y.minute || (x.minute == y.minute && (nat_lt x.van y.van || (x.van == y.van && nat_le x.number y.number)))

-- a visit put in where it is no later than the next
abbrev pub put_in : PlannedVisit → List PlannedVisit → List PlannedVisit
put_in v [] = v ∷ []
put_in v (x ∷ l) = cond (no_later v x) (v ∷ (x ∷ l)) (x ∷ put_in v l)

abbrev pub in_order : List PlannedVisit → List PlannedVisit
in_order [] = []
in_order (v ∷ l) = put_in v (in_order l)

abbrev pub plan : (ℕ → Option Visit) → List Record → List ℕ
plan visit rs = plan_names ++ flat_map visit_line (in_order (visits_from visit 1 rs))

-- what the order of a plan means
pub record Ordered (l : List PlannedVisit) : Type 0 where
  -- no visit is lost and none comes in
  pub same : Perm l (in_order l)
  -- each is no later than all behind it
  pub sorted : InOrder VisitNoLater (in_order l)
