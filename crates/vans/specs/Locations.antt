-- Where a number is held.
use Rattle.std.specs.Prelude.{◌≡◌, ℕ, zero, suc, ◌<◌, true, List, [], ◌∷◌, length, Some, slice_index, slice_index_or, slice_set}
use Rattle.std.specs.List.{remove}
use Rattle.stops.specs.Places.{depot}
use Rattle.fleet.specs.Loads.{Load, stops_of, held}
use Rattle.vans.specs.declared.van.Van.{Van}
use Rattle.vans.specs.declared.choice.Location.{Location}
use Rattle.vans.specs.Rounds.{begins}
use Rattle.vans.specs.Rule.{load_of}
use Rattle.vans.specs.Fleets.{taken_from}
use Rattle.vans.specs.Meaning.{visit_from}

-- the begin at position k of van w's round
abbrev pub begin_at : List Van → List Load → ℕ → ℕ → ℕ
begin_at [] [] w k = 0
begin_at [] (r ∷ rs) w k = 0
begin_at (v ∷ vs) [] w k = 0
begin_at (v ∷ vs) (r ∷ rs) zero k = slice_index (begins v depot v.start (stops_of r)) k
begin_at (v ∷ vs) (r ∷ rs) (suc w) k = begin_at vs rs w k

-- The number n is held at this location.
pub record HeldAt (n : ℕ) (vs : List Van) (rs : List Load) (t : Location) : Type 0 where
  -- the number is held
  pub there : held n (load_of rs) ≡ true
  -- by a van
  pub van : t.van < length rs
  -- at a position of its round
  pub position : t.position < length (slice_index_or rs t.van [])
  -- without that position the rounds are those without the number
  pub rest : slice_set rs t.van (remove (slice_index_or rs t.van []) t.position) ≡ taken_from n rs
  -- and its visit is that van's at the begin there
  pub visit : visit_from 0 vs rs n ≡ Some (record { van = t.van; minute = begin_at vs rs t.van t.position })
