-- What a state means: the word that is written of it, and its minute.
use Rattle.std.specs.Prelude.{ℕ, List, codes}
use Rattle.calls.specs.declared.state.State.{State}
use Rattle.calls.specs.declared.state.State.TheVariants.{Open, Confirmed, Released, Lapsed, Withdrawn}

abbrev pub word : State → List ℕ
word (Open m) = codes "open"
word (Confirmed m) = codes "confirmed"
word (Released m) = codes "released"
word (Lapsed m) = codes "lapsed"
word (Withdrawn m) = codes "withdrawn"

-- the deadline of a number that is open or lapsed, else the minute of the call that made it so
abbrev pub state_minute : State → ℕ
state_minute (Open m) = m
state_minute (Confirmed m) = m
state_minute (Released m) = m
state_minute (Lapsed m) = m
state_minute (Withdrawn m) = m
