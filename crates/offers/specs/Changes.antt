-- What each change makes of each state.
use Rattle.std.specs.Prelude.{ℕ, List, [], Some, None, Ok, Err, Option, Result}
use Rattle.calls.specs.declared.record.Record.{Record}
use Rattle.calls.specs.declared.state.State.{State}
use Rattle.calls.specs.declared.state.State.TheVariants.{Open, Confirmed, Released, Lapsed, Withdrawn}
use Rattle.calls.specs.Answers.{result_map}
use Rattle.calls.specs.Records.{mark_of}
use Rattle.offers.specs.declared.change.Change.{Change}
use Rattle.offers.specs.declared.change.Change.TheVariants.{Confirm, Release, Withdraw, Lapse}

-- what becomes of an open number, with its deadline; 9 for any other
abbrev pub from_open : State → (ℕ → State) → Result State (ℕ × List ℕ)
from_open (Open d) f = Ok (f d)
from_open _ f = Err (9, [])

-- what becomes of a confirmed number; 10 for any other
abbrev pub from_confirmed : State → State → Result State (ℕ × List ℕ)
from_confirmed (Confirmed m) s = Ok s
from_confirmed _ s = Err (10, [])

-- the state after a change at this minute: a lapsed number keeps its deadline
abbrev pub changed : Change → ℕ → State → Result State (ℕ × List ℕ)
changed Confirm minute s = from_open s (λ d. Confirmed minute)
changed Release minute s = from_open s (λ d. Released minute)
changed Lapse minute s = from_open s (λ d. Lapsed d)
changed Withdraw minute s = from_confirmed s (Withdrawn minute)

-- what a change makes of a number in this state; 8 if it was not given
abbrev pub asked : Change → ℕ → Option State → Result State (ℕ × List ℕ)
asked change minute None = Err (8, [])
asked change minute (Some s) = changed change minute s

-- the answer to a change, which is its refusal or the number
abbrev pub numbered : {X E : Type 0} → ℕ → Result X E → Result ℕ E
numbered n r = result_map (λ x. n) r

-- the records after a change of a number: a refused one leaves them
abbrev pub put : List Record → ℕ → Result State (ℕ × List ℕ) → List Record
put rs n (Ok s) = mark_of rs n s
put rs n (Err e) = rs
