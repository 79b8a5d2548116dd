-- The last minute of a slot: a van of limit 200 that is out from 0 to 300 reaches (60, 0) at 60.
use Rattle.std.specs.Prelude.{◌≡◌, ℕ, ◌<◌, ◌≤◌, List, [], ◌∷◌, pos, Some, None}
use Rattle.std.proofs.Common.{lit<, lit≤}
use Rattle.stops.specs.declared.class.Class.TheVariants.{Private}
use Rattle.stops.specs.declared.place.Place.{Place}
use Rattle.stops.specs.declared.stop.Stop.{Stop}
use Rattle.stops.specs.Limits.{last_minute}
use Rattle.fleet.specs.Loads.{Load}
use Rattle.vans.specs.declared.van.Van.{Van}
use Rattle.vans.specs.Meaning.{van_meaning}

-- one van
abbrev pub one_van : List Van
one_van = record { limit = 200; start = 0; end = 300; some = lit≤ tt; most = lit≤ tt; ordered = lit≤ tt; day = lit≤ tt } ∷ []

-- with an empty round
abbrev pub idle : List Load
idle = [] ∷ []

-- a place 60 cells from the depot
abbrev pub far_east : Place
far_east = record { x = pos 60; y = pos 0; west = record { le = tt }; east = record { le = tt }; south = record { le = tt }; north = record { le = tt } }

-- a stop there, in a slot from 10 to a later minute
abbrev pub stop_until : (closes : ℕ) → 10 < closes → closes ≤ last_minute → Stop
stop_until closes apart day = record { slot = 0; hours = record { opens = 10; closes = closes; apart = apart; day = day }; place = far_east; units = 1; class = Private; known = lit≤ tt; some = lit≤ tt; few = lit≤ tt }

abbrev pub until_60 : Stop
until_60 = stop_until 60 (lit< tt) (lit≤ tt)

abbrev pub until_59 : Stop
until_59 = stop_until 59 (lit< tt) (lit≤ tt)

pub record Examples : Type 0 where
  -- a stop of slot 10-60 there is taken
  pub taken : van_meaning.objection one_van idle until_60 ≡ None
  -- and begins at 60
  pub begins : van_meaning.visit one_van (van_meaning.placed one_van idle 1 until_60) 1 ≡ Some (record { van = 0; minute = 60 })
  -- there is no room for one of slot 10-59
  pub closed : van_meaning.objection one_van idle until_59 ≡ Some 0
