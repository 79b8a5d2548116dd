-- What can be seen of a book, and what each call answers and leaves of it.
use Rattle.std.specs.Prelude.{ℕ, List, [], ◌∷◌, ◌++◌, Some, None, Option}
use Rattle.std.specs.Result.{result_err}
use Rattle.stops.specs.declared.slot.Slot.{Slot}
use Rattle.stops.specs.declared.stop.Stop.{Stop}
use Rattle.queue.specs.declared.due.Due.{Due}
use Rattle.fleet.specs.Meaning.{Meaning, after, place_answer, remove_answer}
use Rattle.calls.specs.declared.call.Action.{Action}
use Rattle.calls.specs.declared.call.Action.TheVariants.{Offer, Book, Confirm, Release, Withdraw, Tick}
use Rattle.calls.specs.declared.call.Call.{Call}
use Rattle.calls.specs.declared.record.Record.{Record}
use Rattle.calls.specs.declared.state.State.{State}
use Rattle.calls.specs.declared.state.State.TheVariants.{Open, Confirmed, Released, Withdrawn}
use Rattle.calls.specs.Answers.{Reply, offer, booked, done, refusal}
use Rattle.calls.specs.Causes.{Code, action_rows, first, time_rows}
use Rattle.calls.specs.Deadlines.{deadline_from}
use Rattle.calls.specs.Histories.{next_number}
use Rattle.calls.specs.Lapses.{due, lapses}
use Rattle.calls.specs.Records.{mark_of}
use Rattle.calls.specs.Requests.{stop_for}

-- the slot table and the set-up that a book was opened with, its clock, its records and the standing of its fleet
pub record View (Setup Standing : Type 0) : Type 0 where
  pub table : List Slot
  pub setup : Setup
  pub clock : ℕ
  pub records : List Record
  pub standing : Standing

-- a value, unless there is a refusal; and what a call leaves
abbrev pub unless_refused : {X : Type 0} → Option Code → (Code → X) → X → X
unless_refused None f x = x
unless_refused (Some k) f x = f k

-- the reply to an action that is not refused, in a book with this table, clock and records
abbrev pub success : List Slot → ℕ → List Record → Action → Reply
success table clock given (Offer q) = offer (next_number given) (deadline_from table clock q.class)
success table clock given (Book q) = booked (next_number given)
success table clock given (Confirm n) = done
success table clock given (Release n) = done
success table clock given (Withdraw n) = done
success table clock given Tick = done

module _ {Setup Standing : Type 0} (m : Meaning Setup Standing) where
  -- the standing without a number, if that is held
  abbrev pub taken : Setup → Standing → ℕ → Standing
  taken u t n = after (remove_answer m t n) (m.removed u t n) t

  -- and without the numbers of due entries, one by one
  abbrev pub taken_all : Setup → Standing → List Due → Standing
  taken_all u t [] = t
  taken_all u t (x ∷ l) = taken_all u (taken u t x.number) l

  -- a newly opened book
  abbrev pub opened : List Slot → Setup → View Setup Standing
  opened table u = record { table = table; setup = u; clock = 0; records = []; standing = m.cleared u }

  -- the clock set, and the due numbers lapsed
  abbrev pub passed_to : ℕ → View Setup Standing → View Setup Standing
  passed_to minute b = record { table = b.table; setup = b.setup; clock = minute; records = lapses minute b.records; standing = taken_all b.setup b.standing (due minute b.records) }

  -- one number more, if there is a stop for it
  abbrev pub with_number : View Setup Standing → Option Stop → State → View Setup Standing
  with_number b None s = b
  with_number b (Some stop) s = record { table = b.table; setup = b.setup; clock = b.clock; records = b.records ++ record { stop = stop; state = s } ∷ []; standing = m.placed b.setup b.standing (next_number b.records) stop }

  -- the state of one number made another, with this standing
  abbrev pub with_state : View Setup Standing → ℕ → State → Standing → View Setup Standing
  with_state b n s t = record { table = b.table; setup = b.setup; clock = b.clock; records = mark_of b.records n s; standing = t }

  -- what an action that is not refused leaves
  abbrev pub done_by : View Setup Standing → Action → View Setup Standing
  done_by b (Offer q) = with_number b (stop_for b.table q) (Open (deadline_from b.table b.clock q.class))
  done_by b (Book q) = with_number b (stop_for b.table q) (Confirmed b.clock)
  done_by b (Confirm n) = with_state b n (Confirmed b.clock) b.standing
  done_by b (Release n) = with_state b n (Released b.clock) (taken b.setup b.standing n)
  done_by b (Withdraw n) = with_state b n (Withdrawn b.clock) (taken b.setup b.standing n)
  done_by b Tick = b

  -- what the fleet answers if a stop is placed under the next number
  abbrev pub place_next : View Setup Standing → Stop → Option Code
  place_next b s = result_err (place_answer m b.setup b.standing (next_number b.records) s)

  -- why an action is refused, once the clock is set and the due numbers have lapsed
  abbrev pub why : View Setup Standing → Action → Option Code
  why b a = first (action_rows b.table b.records (place_next b) a)

  abbrev pub act_reply : View Setup Standing → Action → Reply
  act_reply b a = unless_refused (why b a) refusal (success b.table b.clock b.records a)

  abbrev pub act_leaves : View Setup Standing → Action → View Setup Standing
  act_leaves b a = unless_refused (why b a) (λ k. b) (done_by b a)

  -- the reply to a call, and what it leaves
  abbrev pub call_reply : View Setup Standing → Call → Reply
  call_reply b c = unless_refused (first (time_rows b.clock c.minute)) refusal (act_reply (passed_to c.minute b) c.action)

  abbrev pub call_leaves : View Setup Standing → Call → View Setup Standing
  call_leaves b c = unless_refused (first (time_rows b.clock c.minute)) (λ k. b) (act_leaves (passed_to c.minute b) c.action)

  -- the replies to some calls, one after the other, and what they leave
  abbrev pub run_replies : View Setup Standing → List Call → List Reply
  run_replies b [] = []
  run_replies b (c ∷ cs) = call_reply b c ∷ run_replies (call_leaves b c) cs

  abbrev pub run_leaves : View Setup Standing → List Call → View Setup Standing
  run_leaves b [] = b
  run_leaves b (c ∷ cs) = run_leaves (call_leaves b c) cs
