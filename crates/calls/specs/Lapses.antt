-- The numbers that are due at a minute, and the records once they have lapsed.
use Rattle.std.specs.Prelude.{ℕ, suc, cond, List, [], ◌∷◌, nat_le}
use Rattle.queue.specs.declared.due.Due.{Due}
use Rattle.calls.specs.declared.record.Record.{Record}
use Rattle.calls.specs.declared.state.State.{State}
use Rattle.calls.specs.declared.state.State.TheVariants.{Open, Lapsed}

-- an open number whose deadline has come lapses, with that deadline
abbrev pub lapsed : ℕ → State → State
lapsed minute (Open d) = cond (nat_le d minute) (Lapsed d) (Open d)
lapsed minute s = s

-- all of them
abbrev pub lapses : ℕ → List Record → List Record
lapses minute [] = []
lapses minute (r ∷ rs) = record { stop = r.stop; state = lapsed minute r.state } ∷ lapses minute rs

-- the entry of a number, which is lower than those in the list, put in at its deadline
abbrev pub insert : ℕ → ℕ → List Due → List Due
insert d n [] = record { deadline = d; number = n } ∷ []
insert d n (x ∷ l) = cond (nat_le d x.deadline) (record { deadline = d; number = n } ∷ (x ∷ l)) (x ∷ insert d n l)

-- the same if the number is open and due
abbrev pub with_due : ℕ → State → ℕ → List Due → List Due
with_due minute (Open d) n l = cond (nat_le d minute) (insert d n l) l
with_due minute _ n l = l

-- the due numbers in order of deadline and number, where the first record is that of number k
abbrev pub due_from : ℕ → ℕ → List Record → List Due
due_from minute k [] = []
due_from minute k (r ∷ rs) = with_due minute r.state k (due_from minute (suc k) rs)

abbrev pub due : ℕ → List Record → List Due
due minute rs = due_from minute 1 rs
