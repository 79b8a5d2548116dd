-- How a run goes: a relation between a log, the standing that it begins with and the one that it leaves, in terms of the history and of the fleet alone.
use Rattle.std.specs.Prelude.{◌≡◌, ℕ, true, false, List, [], ◌∷◌, Some, None}
use Rattle.stops.specs.declared.slot.Slot.{Slot}
use Rattle.stops.specs.declared.stop.Stop.{Stop}
use Rattle.queue.specs.declared.due.Due.{Due}
use Rattle.fleet.specs.Loads.{held}
use Rattle.fleet.specs.Meaning.{Meaning}
use Rattle.calls.specs.declared.call.Action.{Action}
use Rattle.calls.specs.declared.call.Action.TheVariants.{Offer, Book, Confirm, Release, Withdraw, Tick}
use Rattle.calls.specs.declared.call.Call.{Call}
use Rattle.calls.specs.declared.call.Request.{Request}
use Rattle.calls.specs.declared.entry.Entry.{Entry}
use Rattle.calls.specs.Answers.{Reply, refusal, reply}
use Rattle.calls.specs.Causes.{Code, action_rows, first, no_room, time_rows}
use Rattle.calls.specs.Histories.{History, next_number, passed, told}
use Rattle.calls.specs.Lapses.{due}
use Rattle.calls.specs.Requests.{stop_for}
use Rattle.calls.specs.Views.{success}

module _ {Setup Standing : Type 0} (m : Meaning Setup Standing) (table : List Slot) (u : Setup) where
  -- due numbers leave the fleet in order: each is held, and is removed
  abbrev pub Leave : List Due → Standing → Standing → Type 0
  Leave [] t v = v ≡ t
  Leave (x ∷ l) t v = (held x.number (m.load t) ≡ true) × Leave l (m.removed u t x.number) v

  -- the stop of a request comes into the fleet under the next number
  pub record Comes (h : History) (q : Request) (t v : Standing) : Type 0 where
    pub stop : Stop
    -- it is the stop that was offered
    pub offered : stop_for table q ≡ Some stop
    -- its number was not held
    pub fresh : held (next_number h.records) (m.load t) ≡ false
    pub placed : v ≡ m.placed u t (next_number h.records) stop

  -- the stop of a number goes
  pub record Goes (n : ℕ) (t v : Standing) : Type 0 where
    pub there : held n (m.load t) ≡ true
    pub removed : v ≡ m.removed u t n

  -- how the standing moves by an action that is not refused
  abbrev pub Moves : History → Action → Standing → Standing → Type 0
  Moves h (Offer q) t v = Comes h q t v
  Moves h (Book q) t v = Comes h q t v
  Moves h (Confirm n) t v = v ≡ t
  Moves h (Release n) t v = Goes n t v
  Moves h (Withdraw n) t v = Goes n t v
  Moves h Tick t v = v ≡ t

  -- the first row that holds of an action, with the fleet's objection to its stop
  abbrev pub Refuses : History → Standing → Action → Code → Type 0
  Refuses h t a k = first (action_rows table h.records (λ s. no_room (m.objection u t s)) a) ≡ Some k

  abbrev pub Admits : History → Standing → Action → Type 0
  Admits h t a = first (action_rows table h.records (λ s. no_room (m.objection u t s)) a) ≡ None

  -- A call after the history h, with its reply: it meets the standing t and leaves v.
  pub data Answered (h : History) (t : Standing) (c : Call) (a : Reply) (v : Standing) : Type 0 where
    -- refused for its minute: nothing moves
    at_once : (k : Code) → first (time_rows h.clock c.minute) ≡ Some k → a ≡ refusal k → v ≡ t → Answered h t c a v
    -- the due numbers leave; then the first row that holds is the answer, and nothing else moves
    in_turn : (k : Code) → first (time_rows h.clock c.minute) ≡ None → Leave (due c.minute h.records) t v → Refuses (passed c.minute h) v c.action k → a ≡ refusal k → Answered h t c a v
    -- the due numbers leave, no row holds, and the standing moves by just that action
    fully : (w : Standing) → first (time_rows h.clock c.minute) ≡ None → Leave (due c.minute h.records) t w → Admits (passed c.minute h) w c.action → a ≡ success table c.minute (passed c.minute h).records c.action → Moves (passed c.minute h) c.action w v → Answered h t c a v

  -- the calls of a log one after the other, each after the history of those before it
  abbrev pub Follows : History → Standing → List Entry → Standing → Type 0
  Follows h t [] v = v ≡ t
  Follows h t (e ∷ log) v = (w : Standing) × Answered h t e.call (reply e.answer) w × Follows (told table h e) w log v
