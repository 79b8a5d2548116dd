-- The account: a line of names, and a row for each number in order.
use Rattle.std.specs.Prelude.{◌≡◌, ℕ, zero, suc, ◌+◌, ◌-◌, ◌≤◌, List, [], ◌∷◌, ◌++◌, length, Some, None, codes, decimal, Option}
use Rattle.std.specs.Fmt.{signed_decimal}
use Rattle.stops.specs.Classes.{letter}
use Rattle.calls.specs.declared.record.Record.{Record}
use Rattle.calls.specs.Records.{record_of}
use Rattle.calls.specs.States.{state_minute, word}

abbrev pub account_names : List ℕ
account_names = codes "number,class,slot,x,y,units,state,minute" ++ 10 ∷ []

-- number,class,slot,x,y,units,state,minute
abbrev pub row : ℕ → Record → List ℕ
row n r =
    decimal n ++ (codes "," ++ (letter r.stop.class ++ (codes "," ++ (decimal r.stop.slot ++ (codes "," ++ (signed_decimal r.stop.place.x ++ (codes "," ++ (signed_decimal r.stop.place.y ++ (codes ","
    ++ (decimal r.stop.units ++ (codes "," ++ (word r.state ++ (codes "," ++ (decimal (state_minute r.state) ++ 10 ∷ []))))))))))))))

-- a row for each record, where the first is that of number k
abbrev pub rows_from : ℕ → List Record → List ℕ
rows_from k [] = []
rows_from k (r ∷ rs) = row k r ++ rows_from (suc k) rs

abbrev pub account : List Record → List ℕ
account rs = account_names ++ rows_from 1 rs

-- the row of a number, if it was given
abbrev pub row_if : ℕ → Option Record → List ℕ
row_if n None = []
row_if n (Some r) = row n r

-- the rows of so many numbers from n on
abbrev pub rows_of : List Record → ℕ → ℕ → List ℕ
rows_of rs n zero = []
rows_of rs n (suc count) = row_if n (record_of rs n) ++ rows_of rs (suc n) count

-- the rows from one number to another, that one not counted
abbrev pub stretch : List Record → ℕ → ℕ → List ℕ
stretch rs from to = rows_of rs from (to - from)

-- how stretches go together
pub record Joins (rs : List Record) : Type 0 where
  -- two that meet are one
  pub meet : (a b c : ℕ) → a ≤ b → b ≤ c → stretch rs a b ++ stretch rs b c ≡ stretch rs a c
  -- the line of names and the stretch over all numbers are the account
  pub whole : account_names ++ stretch rs 1 (length rs + 1) ≡ account rs
