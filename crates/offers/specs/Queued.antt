-- How the due entries of a book go with its records.
use Rattle.std.specs.Prelude.{◌≡◌, ℕ, suc, ◌<◌, Bool, true, false, ◌&&◌, ◌||◌, List, [], ◌∷◌, Some, None, Option, ◌==◌}
use Rattle.queue.specs.declared.due.Due.{Due}
use Rattle.calls.specs.declared.record.Record.{Record}
use Rattle.calls.specs.declared.state.State.{State}
use Rattle.calls.specs.declared.state.State.TheVariants.{Open}
use Rattle.calls.specs.Records.{state_at, state_of}

-- an entry has this deadline and this number
abbrev pub matches : Due → ℕ → ℕ → Bool
matches x d n = x.deadline == d && x.number == n

-- one of the entries has them
abbrev pub queued : List Due → ℕ → ℕ → Bool
queued [] d n = false
queued (x ∷ q) d n = matches x d n || queued q d n

-- a number that was given, and that has this deadline if it is open
abbrev pub fits : Option State → ℕ → Bool
fits None d = false
fits (Some (Open e)) d = e == d
fits _ d = true

-- each open number has an entry; `at` is its place and its deadline
abbrev pub Listed : List Record → List Due → Type 0
Listed rs q = (at : ℕ × ℕ) → state_at rs at.0 ≡ Some (Open at.1) → queued q at.1 (suc at.0) ≡ true

-- each entry fits the record of its number; `at` is its deadline and its number
abbrev pub Known : List Record → List Due → Type 0
Known rs q = (at : ℕ × ℕ) → queued q at.0 at.1 ≡ true → fits (state_of rs at.1) at.0 ≡ true

-- no open number is due at this minute; `at` is its place and its deadline
abbrev pub Undue : ℕ → List Record → Type 0
Undue minute rs = (at : ℕ × ℕ) → state_at rs at.0 ≡ Some (Open at.1) → minute < at.1
