-- The output for an input.
use Rattle.std.specs.Prelude.{◌≡◌, ℕ, ◌+◌, ◌≤◌, true, cond, List, [], ◌∷◌, ◌++◌, length, drop, is_ok, Ok, Err, codes, decimal, Result, nat_lt}
use Rattle.std.specs.List.{flat_map}
use Rattle.commands.specs.declared.setup.entry.SlotEntry.{SlotEntry}
use Rattle.commands.specs.Setups.{Fault, setup_of}
use Rattle.commands.specs.Sheets.{Begins}
use Rattle.stops.specs.declared.refusal.Refusal.{Refusal}
use Rattle.text.specs.declared.buffer.Buffer.{Buffer}
use Rattle.text.specs.Buffers.{content}
use Rattle.text.specs.Parts.{lines}
use Rattle.vans.specs.declared.van.Van.{Van}
use Rattle.batch.specs.Heard.{heard}
use Rattle.batch.specs.Listing.{listing}

-- refused R line L
abbrev pub fault_line : ℕ → ℕ → List ℕ
fault_line number line = codes "refused " ++ (decimal number ++ (codes " line " ++ (decimal line ++ 10 ∷ [])))

-- the set-up that was taken, and what was heard of each line behind it
abbrev pub day : List SlotEntry → List Van → List (List ℕ) → List ℕ
day slots vans ls = listing slots vans ++ flat_map heard (drop (length slots + length vans) ls)

-- the day, or only the refusal of its set-up
abbrev pub answered : List (List ℕ) → Result (List SlotEntry × List Van) Fault → List ℕ
answered ls (Ok s) = day s.0 s.1 ls
answered ls (Err f) = fault_line f.0.0 f.1

-- an input of more than 60,000 bytes is refused whole, with line 0
abbrev pub response : List ℕ → List ℕ
response input = cond (nat_lt 60000 (length input)) (fault_line 14 0) (answered (lines input) (setup_of (lines input)))

-- An input that begins with a sheet, as it is written from its slots and vans, is answered with just these slots and vans.
abbrev pub ReadBack : List ℕ → Type 0
ReadBack input = (slots : List SlotEntry) (vans : List Van) → Begins (lines input) slots vans → length input ≤ 60000 → response input ≡ day slots vans (lines input)

-- a text was added to a buffer that had room for it
abbrev pub Grown : List ℕ → Buffer → Result (Unit {0}) Refusal → Buffer → Type 0
Grown text old r new = (is_ok r ≡ true) × (content new ≡ content old ++ text) × (new.room ≡ old.room)
