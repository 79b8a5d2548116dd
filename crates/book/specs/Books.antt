-- A book as it is seen, and what a call does to it.
use Rattle.std.specs.Prelude.{◌≡◌, ℕ, List, [], ◌∷◌, ◌++◌, Result}
use Rattle.fleet.specs.declared.interface.Fleet.{Ghosts}
use Rattle.stops.specs.declared.refusal.Refusal.{Refusal}
use Rattle.stops.specs.declared.slot.Slot.{Slot}
use Rattle.stops.specs.Slots.{slots_of}
use Rattle.offers.specs.Tables.{rows}
use Rattle.calls.specs.declared.answer.Answer.{Answer}
use Rattle.calls.specs.declared.call.Action.{Action}
use Rattle.calls.specs.declared.call.Call.{Call}
use Rattle.calls.specs.declared.entry.Entry.{Entry}
use Rattle.calls.specs.Answers.{reply}
use Rattle.calls.specs.Theorem.{Theorem}
use Rattle.calls.specs.Views.{View, call_leaves, call_reply}
use Rattle.book.specs.declared.book.Book.{Book}

-- what can be seen of a book over a fleet of this kind
abbrev pub view : {F : Type 0} (f : Ghosts F) → Book F → View f.Setup f.Standing
view f b = record { table = slots_of b.table; setup = f.setup b.fleet; clock = b.offers.clock; records = rows b.offers; standing = f.standing b.fleet }

-- an action at a minute
abbrev pub call_at : ℕ → Action → Call
call_at minute action = record { minute = minute; action = action }

-- A call and its answer, which leave one book of another.
pub record Does {F : Type 0} (f : Ghosts F) (old : Book F) (call : Call) (answer : Result Answer Refusal) (new : Book F) : Type 0 where
  -- the answer is the one defined, by its numbers and values
  pub answered : reply answer ≡ call_reply f.meaning (view f old) call
  -- and so is what can be seen of the book afterwards
  pub left : view f new ≡ call_leaves f.meaning (view f old) call

-- What holds of a book for a log passes on to the log with this call and its answer.
abbrev pub Passes : {F : Type 0} (f : Ghosts F) → Book F → Call → Result Answer Refusal → Book F → Type 0
Passes f old call answer new =
    (table : List Slot) (u : f.Setup) (log : List Entry) → Theorem f.meaning table u log (view f old)
    → Theorem f.meaning table u (log ++ record { call = call; answer = answer } ∷ []) (view f new)

-- What each call of a book promises.
pub record Makes {F : Type 0} (f : Ghosts F) (old : Book F) (call : Call) (answer : Result Answer Refusal) (new : Book F) : Type 0 where
  pub does : Does f old call answer new
  pub passes : Passes f old call answer new
