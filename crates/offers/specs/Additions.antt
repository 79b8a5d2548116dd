-- Which number the next record gets, and when it is refused.
use Rattle.std.specs.Prelude.{ℕ, ◌+◌, Bool, false, cond, List, [], ◌∷◌, ◌++◌, length, Ok, Err, Result, nat_le}
use Rattle.stops.specs.Refusals.{and_then}
use Rattle.calls.specs.declared.record.Record.{Record}
use Rattle.calls.specs.declared.state.State.{State}
use Rattle.calls.specs.declared.state.State.TheVariants.{Open}
use Rattle.calls.specs.Limits.{number_limit}

-- the next number; 6 where all were given
abbrev pub number_answer : List Record → Result ℕ (ℕ × List ℕ)
number_answer rs = cond (nat_le number_limit (length rs)) (Err (6, [])) (Ok (length rs + 1))

-- open, with a deadline that is not after the clock
abbrev pub overdue : ℕ → State → Bool
overdue clock (Open d) = nat_le d clock
overdue clock _ = false

-- the number that a record gets; 6 where all were given, 17 where it is overdue
abbrev pub add_answer : List Record → ℕ → Record → Result ℕ (ℕ × List ℕ)
add_answer rs clock r = and_then (number_answer rs) (λ n. cond (overdue clock r.state) (Err (17, [])) (Ok n))

-- the records once a record was answered so: a refused one leaves them
abbrev pub added_to : List Record → Record → Result ℕ (ℕ × List ℕ) → List Record
added_to rs r (Ok n) = rs ++ r ∷ []
added_to rs r (Err e) = rs
