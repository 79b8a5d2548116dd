-- What holds of a book after any calls, over any fleet that keeps the laws.
use Rattle.std.specs.Prelude.{◌≡◌, ℕ, suc, true, false, List, [], ◌∷◌, ◌++◌, Some}
use mathlib.Core.List.{Perm}
use Rattle.stops.specs.declared.slot.Slot.{Slot}
use Rattle.fleet.specs.Laws.{Within}
use Rattle.fleet.specs.Loads.{stops_of}
use Rattle.fleet.specs.Meaning.{Meaning}
use Rattle.calls.specs.declared.entry.Entry.{Entry}
use Rattle.calls.specs.declared.record.Record.{Record}
use Rattle.calls.specs.Answers.{Reply, offer, booked, done, refusal, reply}
use Rattle.calls.specs.Histories.{begun, history}
use Rattle.calls.specs.Records.{held_from, holding, is_confirmed, record_of}
use Rattle.calls.specs.Steps.{Follows}
use Rattle.calls.specs.Views.{View}

-- the number in a reply, if there is one
abbrev pub number_in : Reply → List ℕ
number_in (offer n d) = n ∷ []
number_in (booked n) = n ∷ []
number_in done = []
number_in (refusal k) = []

-- the numbers in the answers of a log, in order
abbrev pub numbers_in : List Entry → List ℕ
numbers_in [] = []
numbers_in (e ∷ log) = number_in (reply e.answer) ++ numbers_in log

-- counting up from k, one for each record
abbrev pub counting : ℕ → List Record → List ℕ
counting k [] = []
counting k (r ∷ rs) = k ∷ counting (suc k) rs

-- A book that was opened with this slot table and this set-up of its fleet, once the log's calls were made and answered: b is what can be seen of it.
pub record Theorem {Setup Standing : Type 0} (m : Meaning Setup Standing) (table : List Slot) (u : Setup) (log : List Entry) (b : View Setup Standing) : Type 0 where
  -- the slot table and the set-up are those of the opening
  pub kept : (b.table ≡ table) × (b.setup ≡ u)
  -- the clock is the minute of the last call that was not refused for its minute
  pub clocked : b.clock ≡ (history table log).clock
  -- each answer is the first row that holds, else the success, of the history before it and of the standing that it meets; the standing moves by just that call and its lapses
  pub answered : Follows m table u begun (m.cleared u) log b.standing
  -- the numbers in the answers are 1, 2, 3 and so on, and the book has exactly those records
  pub given : numbers_in log ≡ counting 1 b.records
  -- each record has the stop that was offered, and the state and the minute that the history gives its number
  pub recorded : b.records ≡ (history table log).records
  -- cut the log in two: a number that is released, lapsed or withdrawn after the first part has the same record after the whole
  pub settled : (before behind : List Entry) (n : ℕ) (r : Record) → log ≡ before ++ behind → record_of (history table before).records n ≡ Some r → holding r.state ≡ false → record_of b.records n ≡ Some r
  -- the fleet holds, up to order, the stops of the numbers that are open or confirmed by the history, each under its number, and no other
  pub held : Perm (m.load b.standing) (held_from 1 (history table log).records)
  -- together they keep the fleet's rule
  pub ruled : m.rule u (stops_of (m.load b.standing))
  -- on a routed fleet each number that is confirmed by the history has a visit, from open to close of the slot that was offered
  pub visited : m.routed ≡ true → (n : ℕ) (r : Record) → record_of (history table log).records n ≡ Some r → is_confirmed (Some r.state) ≡ true → Within r.stop (m.visit u b.standing n)
