-- The history of a book: what the slot table and a log of calls and answers tell of each number, with nothing of the book or its fleet.
use Rattle.std.specs.Prelude.{ℕ, ◌+◌, Bool, false, cond, ◌||◌, List, [], ◌∷◌, ◌++◌, length, Some, None, Option, ◌==◌}
use Rattle.stops.specs.declared.slot.Slot.{Slot}
use Rattle.stops.specs.declared.stop.Stop.{Stop}
use Rattle.calls.specs.declared.call.Action.{Action}
use Rattle.calls.specs.declared.call.Action.TheVariants.{Offer, Book, Confirm, Release, Withdraw, Tick}
use Rattle.calls.specs.declared.entry.Entry.{Entry}
use Rattle.calls.specs.declared.record.Record.{Record}
use Rattle.calls.specs.declared.state.State.{State}
use Rattle.calls.specs.declared.state.State.TheVariants.{Open, Confirmed, Released, Withdrawn}
use Rattle.calls.specs.Answers.{Reply, offer, booked, done, refusal, reply}
use Rattle.calls.specs.Deadlines.{deadline_from}
use Rattle.calls.specs.Lapses.{lapses}
use Rattle.calls.specs.Records.{mark_of}
use Rattle.calls.specs.Requests.{stop_for}

-- the clock, and stop and state of each number, number 1 first
pub record History : Type 0 where
  pub clock : ℕ
  pub records : List Record

-- before the first call
abbrev pub begun : History
begun = record { clock = 0; records = [] }

-- the clock set, and the open numbers whose deadline has come lapsed
abbrev pub passed : ℕ → History → History
passed minute h = record { clock = minute; records = lapses minute h.records }

-- the number that the next offer gets
abbrev pub next_number : List Record → ℕ
next_number given = length given + 1

-- one number more, if there is a stop for it
abbrev pub added : History → Option Stop → State → History
added h None s = h
added h (Some stop) s = record { clock = h.clock; records = h.records ++ record { stop = stop; state = s } ∷ [] }

-- the state of one number made another
abbrev pub marked : History → ℕ → State → History
marked h n s = record { clock = h.clock; records = mark_of h.records n s }

-- what is so by an answer that is an offer, and what else; the same of a booking, and of an answer that is done
abbrev pub by_offer : {X : Type 0} → Reply → X → X → X
by_offer (offer n d) new old = new
by_offer _ new old = old

abbrev pub by_booking : {X : Type 0} → Reply → X → X → X
by_booking (booked n) new old = new
by_booking _ new old = old

abbrev pub by_done : {X : Type 0} → Reply → X → X → X
by_done done new old = new
by_done _ new old = old

-- refused with 1 or 2
abbrev pub untimely : Reply → Bool
untimely (refusal k) = k.0 == 1 || k.0 == 2
untimely _ = false

module _ (table : List Slot) where
  -- what the answer to an action tells, once the clock is set and the due numbers have lapsed: a refusal or a tick tells no more
  abbrev pub acted : History → Action → Reply → History
  acted h (Offer q) a = by_offer a (added h (stop_for table q) (Open (deadline_from table h.clock q.class))) h
  acted h (Book q) a = by_booking a (added h (stop_for table q) (Confirmed h.clock)) h
  acted h (Confirm n) a = by_done a (marked h n (Confirmed h.clock)) h
  acted h (Release n) a = by_done a (marked h n (Released h.clock)) h
  acted h (Withdraw n) a = by_done a (marked h n (Withdrawn h.clock)) h
  acted h Tick a = h

  -- one call and its answer: refused with 1 or 2 it tells nothing
  abbrev pub told : History → Entry → History
  told h e = cond (untimely (reply e.answer)) h (acted (passed e.call.minute h) e.call.action (reply e.answer))

  -- the history that goes on from another
  abbrev pub onward : History → List Entry → History
  onward h [] = h
  onward h (e ∷ log) = onward (told h e) log

  -- the history of a log
  abbrev pub history : List Entry → History
  history log = onward begun log
