-- What the parts of a call do: b is what is seen of the book before, c what is seen of it afterwards.
use Rattle.std.specs.Prelude.{◌≡◌, ℕ, ◌≤◌, Some, None, Ok, Err, Result}
use Rattle.stops.specs.declared.refusal.Refusal.{Refusal}
use Rattle.stops.specs.Refusals.{refused}
use Rattle.fleet.specs.Meaning.{Meaning}
use Rattle.calls.specs.declared.call.Action.{Action}
use Rattle.calls.specs.declared.call.Request.{Request}
use Rattle.calls.specs.declared.state.State.{State}
use Rattle.calls.specs.Causes.{first, offer_rows, time_rows}
use Rattle.calls.specs.Histories.{next_number}
use Rattle.calls.specs.Limits.{last_booking_minute}
use Rattle.calls.specs.Records.{state_of}
use Rattle.calls.specs.Requests.{stop_for}
use Rattle.calls.specs.Views.{View, done_by, passed_to, place_next, taken, why, with_number, with_state}
use Rattle.offers.specs.declared.change.Change.{Change}
use Rattle.offers.specs.Changes.{asked}

-- a call may name this minute, or the first row that forbids it
abbrev pub Timely : ℕ → ℕ → Result (Unit {0}) Refusal → Type 0
Timely clock minute (Ok x) = (first (time_rows clock minute) ≡ None) × (minute ≤ last_booking_minute)
Timely clock minute (Err e) = first (time_rows clock minute) ≡ Some (refused e)

module _ {Setup Standing : Type 0} (m : Meaning Setup Standing) (b : View Setup Standing) where
  -- what every call begins with: the minute is tested, the clock is set and the due numbers lapse
  abbrev pub Begun : ℕ → Result (Unit {0}) Refusal → View Setup Standing → Type 0
  Begun minute (Ok x) c = (first (time_rows b.clock minute) ≡ None) × (c ≡ passed_to m minute b) × (minute ≤ last_booking_minute)
  Begun minute (Err e) c = (first (time_rows b.clock minute) ≡ Some (refused e)) × (c ≡ b)

  -- the stop of a request gets the next number, in this state
  abbrev pub Numbered : Request → State → Result ℕ Refusal → View Setup Standing → Type 0
  Numbered q s (Ok n) c = (first (offer_rows b.table b.records (place_next m b) q) ≡ None) × (n ≡ next_number b.records) × (c ≡ with_number m b (stop_for b.table q) s)
  Numbered q s (Err e) c = (first (offer_rows b.table b.records (place_next m b) q) ≡ Some (refused e)) × (c ≡ b)

  -- a number takes the state that a change makes of it, and its stop leaves the fleet
  abbrev pub LetGo : Change → ℕ → Result (Unit {0}) Refusal → View Setup Standing → Type 0
  LetGo change n (Ok x) c = (s : State) × (asked change b.clock (state_of b.records n) ≡ Ok s) × (c ≡ with_state m b n s (taken m b.setup b.standing n))
  LetGo change n (Err e) c = (asked change b.clock (state_of b.records n) ≡ Err (refused e)) × (c ≡ b)

  -- an action on one number, once the clock is set
  abbrev pub Altered : Action → Result (Unit {0}) Refusal → View Setup Standing → Type 0
  Altered a (Ok x) c = (why m b a ≡ None) × (c ≡ done_by m b a)
  Altered a (Err e) c = (why m b a ≡ Some (refused e)) × (c ≡ b)
