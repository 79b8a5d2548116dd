-- The rule of a van fleet: the stops can be dealt into lawful rounds, one for each van.
use Rattle.std.specs.Prelude.{List, [], ◌∷◌, ◌++◌, map}
use mathlib.Core.List.{Perm}
use Rattle.stops.specs.declared.stop.Stop.{Stop}
use Rattle.fleet.specs.Loads.{Load, stops_of}
use Rattle.vans.specs.declared.van.Van.{Van}
use Rattle.vans.specs.Rounds.{Lawful}

-- all lists in a row
abbrev pub together : {X : Type 0} → List (List X) → List X
together [] = []
together (p ∷ ps) = p ++ together ps

-- one lawful round for each van
abbrev pub LawfulRounds : List Van → List (List Stop) → Type 0
LawfulRounds [] [] = Unit {0}
LawfulRounds [] (p ∷ ps) = ⊥
LawfulRounds (v ∷ vs) [] = ⊥
LawfulRounds (v ∷ vs) (p ∷ ps) = Lawful v p × LawfulRounds vs ps

-- some lawful rounds have just these stops
abbrev pub Rule : List Van → List Stop → Type 0
Rule vs l = ∥ ((ps : List (List Stop)) × LawfulRounds vs ps × Perm (together ps) l) ∥₁

-- rounds without their numbers
abbrev pub bare_rounds : List Load → List (List Stop)
bare_rounds rs = map stops_of rs

-- the load of rounds
abbrev pub load_of : List Load → Load
load_of rs = together rs
