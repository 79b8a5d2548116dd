-- The ranges of a van's figures and of a van fleet, each named once.
use Rattle.std.specs.Prelude.{ℕ}

-- a van takes at most 1 to 1000 units
abbrev pub load_limit : ℕ
load_limit = 1000

-- a fleet has at most 8 vans
abbrev pub van_limit : ℕ
van_limit = 8

-- a round has at most 24 stops
abbrev pub stop_limit : ℕ
stop_limit = 24

-- service takes 6 minutes
abbrev pub service_minutes : ℕ
service_minutes = 6

-- no travel from place to place takes longer
abbrev pub travel_limit : ℕ
travel_limit = 398
