-- What holds of a book for a log passes on over any call.
use Rattle.std.proofs.Common.{◌≤◌, length, Result, arith}
use Rattle.stops.specs.declared.refusal.Refusal.{Refusal}
use Rattle.stops.specs.declared.table.SlotTable.{SlotTable}
use Rattle.stops.specs.Limits.{slot_limit}
use Rattle.stops.specs.Slots.{slots_of}
use Rattle.fleet.specs.declared.interface.Fleet.{Ghosts}
use Rattle.fleet.specs.Laws.{Laws}
use Rattle.calls.specs.declared.answer.Answer.{Answer}
use Rattle.calls.specs.declared.call.Call.{Call}
use Rattle.calls.proofs.Whole.{passes}
use Rattle.book.specs.declared.book.Book.{Book}
use Rattle.book.specs.Books.{Does, Makes, view}

-- a table has at most 12 slots
pub few_slots : (t : SlotTable) → length (slots_of t) ≤ slot_limit
few_slots t = omega (arith, t.few, t.slots.ok.0)

pub made : {F : Type 0} (f : Ghosts F) → Laws f.meaning → (old new : Book F) (c : Call) (a : Result Answer Refusal) → Does f old c a new → Makes f old c a new
made f laws old new c a d = record { does = d; passes = passes f.meaning laws (view f old) (view f new) c a (few_slots old.table) d.answered d.left }
