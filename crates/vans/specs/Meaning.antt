-- What a van fleet means.
use Rattle.std.specs.Prelude.{ℕ, ◌+◌, true, cond, List, [], ◌∷◌, Some, None, Option, slice_index}
use Rattle.stops.specs.Places.{depot}
use Rattle.fleet.specs.declared.visit.Visit.{Visit}
use Rattle.fleet.specs.Loads.{Load, stops_of, held, index}
use Rattle.fleet.specs.Meaning.{Meaning}
use Rattle.vans.specs.declared.van.Van.{Van}
use Rattle.vans.specs.Rounds.{begins}
use Rattle.vans.specs.Rule.{Rule, load_of}
use Rattle.vans.specs.Cheapest.{Choice}
use Rattle.vans.specs.Chosen.{chosen}
use Rattle.vans.specs.Fleets.{cleared, with_stop, taken_from}

-- no objection where there is a position, else depth 0
abbrev pub objection_of : Option Choice → Option ℕ
objection_of None = Some 0
objection_of (Some c) = None

-- the begin of the stop under a number in its round
abbrev pub begin_of : Van → Load → ℕ → ℕ
begin_of v r n = slice_index (begins v depot v.start (stops_of r)) (index n r)

-- the van and the begin of the stop under a number, for vans from w on and their rounds
abbrev pub visit_from : ℕ → List Van → List Load → ℕ → Option Visit
visit_from w [] [] n = None
visit_from w [] (r ∷ rs) n = None
visit_from w (v ∷ vs) [] n = None
visit_from w (v ∷ vs) (r ∷ rs) n = cond (held n r) (Some (record { van = w; minute = begin_of v r n })) (visit_from (w + 1) vs rs n)

-- the set-up is the vans, and the standing their rounds
abbrev pub van_meaning : Meaning (List Van) (List Load)
van_meaning = record {
  load = λ rs. load_of rs;
  rule = λ vs l. Rule vs l;
  cleared = λ vs. cleared vs;
  objection = λ vs rs s. objection_of (chosen vs rs s);
  placed = λ vs rs n s. with_stop rs (chosen vs rs s) n s;
  removed = λ vs rs n. taken_from n rs;
  routed = true;
  visit = λ vs rs n. visit_from 0 vs rs n;
}
