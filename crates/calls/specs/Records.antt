-- The records of a book as a list: that of number n stands at place n - 1.
use Rattle.std.specs.Prelude.{ℕ, zero, suc, Bool, true, false, cond, ◌||◌, List, [], ◌∷◌, Some, None, Option}
use Rattle.std.specs.List.{slice_get}
use Rattle.std.specs.Option.{option_map}
use Rattle.fleet.specs.Loads.{Load}
use Rattle.calls.specs.declared.record.Record.{Record}
use Rattle.calls.specs.declared.state.State.{State}
use Rattle.calls.specs.declared.state.State.TheVariants.{Open, Confirmed}

-- by place
abbrev pub record_at : List Record → ℕ → Option Record
record_at rs i = slice_get rs i

abbrev pub state_at : List Record → ℕ → Option State
state_at rs i = option_map (λ r. r.state) (record_at rs i)

-- by number: 0 has no record, and no number that was not given
abbrev pub record_of : List Record → ℕ → Option Record
record_of rs zero = None
record_of rs (suc i) = record_at rs i

abbrev pub state_of : List Record → ℕ → Option State
state_of rs n = option_map (λ r. r.state) (record_of rs n)

-- the one state at this place made another; the stop stays
abbrev pub mark : List Record → ℕ → State → List Record
mark [] i s = []
mark (r ∷ rs) zero s = record { stop = r.stop; state = s } ∷ rs
mark (r ∷ rs) (suc i) s = r ∷ mark rs i s

-- the same by number
abbrev pub mark_of : List Record → ℕ → State → List Record
mark_of rs zero s = rs
mark_of rs (suc i) s = mark rs i s

-- whether a number in this state is open, or confirmed; a number that was not given is neither
abbrev pub is_open : Option State → Bool
is_open (Some (Open d)) = true
is_open _ = false

abbrev pub is_confirmed : Option State → Bool
is_confirmed (Some (Confirmed m)) = true
is_confirmed _ = false

-- whether its stop is with the fleet: it is open or confirmed
abbrev pub holding : State → Bool
holding s = is_open (Some s) || is_confirmed (Some s)

-- the stops of these numbers, each under its number, where the first record is that of number k
abbrev pub held_from : ℕ → List Record → Load
held_from k [] = []
held_from k (r ∷ rs) = cond (holding r.state) ((k, r.stop) ∷ held_from (suc k) rs) (held_from (suc k) rs)
