-- The sheets of a book.
use Rattle.std.specs.Prelude.{ℕ, List, Option}
use Rattle.fleet.specs.declared.interface.Fleet.{Ghosts}
use Rattle.fleet.specs.declared.visit.Visit.{Visit}
use Rattle.offers.specs.Tables.{rows}
use Rattle.calls.specs.declared.record.Record.{Record}
use Rattle.book.specs.declared.book.Book.{Book}

-- the records of a book, number 1 first
abbrev pub records : {F : Type 0} → Book F → List Record
records b = rows b.offers

-- the visit of a number, as the fleet of a book names it
abbrev pub visit_in : {F : Type 0} (f : Ghosts F) → Book F → ℕ → Option Visit
visit_in f b n = f.meaning.visit (f.setup b.fleet) (f.standing b.fleet) n
