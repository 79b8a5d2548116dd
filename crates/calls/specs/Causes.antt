-- Why a call is refused: rows of a number, its values and a condition, in the order in which they are looked at.
use Rattle.std.specs.Prelude.{ℕ, Bool, cond, not, ◌||◌, List, [], ◌∷◌, ◌++◌, length, is_some, Some, None, Option, ◌==◌, nat_le, nat_lt}
use Rattle.stops.specs.declared.slot.Slot.{Slot}
use Rattle.std.specs.List.{slice_get}
use Rattle.stops.specs.declared.stop.Stop.{Stop}
use Rattle.stops.specs.Limits.{unit_limit}
use Rattle.stops.specs.Places.{place_of}
use Rattle.calls.specs.declared.call.Action.{Action}
use Rattle.calls.specs.declared.call.Action.TheVariants.{Offer, Book, Confirm, Release, Withdraw, Tick}
use Rattle.calls.specs.declared.call.Request.{Request}
use Rattle.calls.specs.declared.record.Record.{Record}
use Rattle.calls.specs.declared.state.State.{State}
use Rattle.calls.specs.Limits.{last_booking_minute, number_limit}
use Rattle.calls.specs.Records.{is_confirmed, is_open, state_of}
use Rattle.calls.specs.Requests.{stop_for, with_some}

-- the number of a refusal and its values
abbrev pub Code : Type 0
Code = ℕ × List ℕ

-- a row without values: its code, where its condition holds
abbrev pub row : ℕ → Bool → Option Code
row number holds = cond holds (Some (number, [])) None

-- 7 with the depth, where there is an objection
abbrev pub no_room : Option ℕ → Option Code
no_room None = None
no_room (Some depth) = Some (7, depth ∷ [])

-- the first row that holds
abbrev pub first : List (Option Code) → Option Code
first [] = None
first (None ∷ rows) = first rows
first (Some code ∷ rows) = Some code

-- of every call: its minute is below the clock, or above 100,000
abbrev pub time_rows : ℕ → ℕ → List (Option Code)
time_rows clock minute = row 1 (nat_lt minute clock) ∷ (row 2 (nat_lt last_booking_minute minute) ∷ [])

-- of a request: no place of the grid, no units or more than 200, no slot of the table
abbrev pub stop_rows : List Slot → Request → List (Option Code)
stop_rows table q =
    row 3 (not (is_some (place_of q.x q.y)))
    ∷ (row 4 (q.units == 0 || nat_lt unit_limit q.units)
    ∷ (row 5 (not (is_some (slice_get table q.slot)))
    ∷ []))

-- of an offer or a booking: the same, then that all 512 numbers are given, then what the fleet has against the stop
abbrev pub offer_rows : List Slot → List Record → (Stop → Option Code) → Request → List (Option Code)
offer_rows table given against q = stop_rows table q ++ (row 6 (nat_le number_limit (length given)) ∷ (with_some (stop_for table q) against ∷ []))

-- of a call that wants an open number: it was not given, or is not open
abbrev pub open_rows : Option State → List (Option Code)
open_rows s = row 8 (not (is_some s)) ∷ (row 9 (not (is_open s)) ∷ [])

-- of one that wants a confirmed number
abbrev pub confirmed_rows : Option State → List (Option Code)
confirmed_rows s = row 8 (not (is_some s)) ∷ (row 10 (not (is_confirmed s)) ∷ [])

-- of each action, once the clock is set and the due numbers have lapsed
abbrev pub action_rows : List Slot → List Record → (Stop → Option Code) → Action → List (Option Code)
action_rows table given against (Offer q) = offer_rows table given against q
action_rows table given against (Book q) = offer_rows table given against q
action_rows table given against (Confirm n) = open_rows (state_of given n)
action_rows table given against (Release n) = open_rows (state_of given n)
action_rows table given against (Withdraw n) = confirmed_rows (state_of given n)
action_rows table given against Tick = []
