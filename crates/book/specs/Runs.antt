-- What `run` promises.
use Rattle.std.specs.Prelude.{◌≡◌, ◌<◌, ◌≤◌, List, [], map, length, Ok, Err, Result}
use Rattle.fleet.specs.declared.interface.Fleet.{Ghosts}
use Rattle.stops.specs.declared.table.SlotTable.{SlotTable}
use Rattle.stops.specs.Refusals.{refused}
use Rattle.stops.specs.Slots.{slots_of}
use Rattle.offers.specs.declared.memory.Memory.{Memory}
use Rattle.calls.specs.declared.call.Call.{Call}
use Rattle.calls.specs.declared.entry.Entry.{Entry}
use Rattle.calls.specs.Answers.{Reply, reply}
use Rattle.calls.specs.Theorem.{Theorem}
use Rattle.calls.specs.Views.{opened, run_leaves, run_replies}
use Rattle.book.specs.declared.book.Book.{Book}
use Rattle.book.specs.declared.log.Log.{Log}
use Rattle.book.specs.declared.run.Unopened.{Unopened}
use Rattle.book.specs.Books.{view}
use Rattle.book.specs.Logs.{entries_in}

-- the calls of some entries, and their replies
abbrev pub calls_of : List Entry → List Call
calls_of log = map (λ (e : Entry). e.call) log

abbrev pub replies_of : List Entry → List Reply
replies_of log = map (λ (e : Entry). reply e.answer) log

-- The log has an entry for each call, and the whole theorem holds of it and of the book that is left.
pub record Ran {F : Type 0} (f : Ghosts F) (table : SlotTable) (fleet : F) (calls : List Call) (old new : Log) (book : Book F) : Type 0 where
  -- the log had a place for each call, and has as many places as before
  pub room : length calls ≤ old.room
  pub places : new.room ≡ old.room
  -- its calls are those that were made, in order
  pub logged : calls_of (entries_in new) ≡ calls
  pub theorem : Theorem f.meaning (slots_of table) (f.setup fleet) (entries_in new) (view f book)
  -- the replies, and what is seen of the book, are those defined
  pub replies : replies_of (entries_in new) ≡ run_replies f.meaning (opened f.meaning (slots_of table) (f.setup fleet)) calls
  pub leaves : view f book ≡ run_leaves f.meaning (opened f.meaning (slots_of table) (f.setup fleet)) calls

-- refused with 18, exactly where the log has too few places: the log is as it was, and all that was given comes back
abbrev pub Runs : {F : Type 0} (f : Ghosts F) → Memory → SlotTable → F → List Call → Log → Result (Book F) (Unopened F) → Log → Type 0
Runs f memory table fleet calls old (Ok book) new = Ran f table fleet calls old new book
Runs f memory table fleet calls old (Err e) new = (refused e.refusal ≡ (18, [])) × (old.room < length calls) × (new ≡ old) × (e.memory ≡ memory) × (e.table ≡ table) × (e.fleet ≡ fleet)
