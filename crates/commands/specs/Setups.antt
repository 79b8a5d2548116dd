-- The set-up sheet: the S lines at the front of an input, then the V lines.
use Rattle.std.specs.Prelude.{◌≡◌, ℕ, ◌+◌, Bool, false, cond, List, [], ◌∷◌, ◌++◌, length, drop, Some, None, Ok, Err, vec_items, Option, Result, Vec, ◌==◌, nat_le, nat_lt}
use Rattle.std.specs.declared.alloc.Global.{Global}
use Rattle.stops.specs.Refusals.{and_then, refused}
use Rattle.text.specs.Lines.{lines_left}
use Rattle.text.specs.Parts.{fields}
use Rattle.vans.specs.declared.van.Van.{Van}
use Rattle.commands.specs.declared.setup.entry.SlotEntry.{SlotEntry}
use Rattle.commands.specs.declared.setup.numbered.Numbered.{Numbered}
use Rattle.commands.specs.declared.setup.refusal.SetupRefusal.{SetupRefusal}
use Rattle.commands.specs.declared.setup.sheet.Setup.{Setup}
use Rattle.commands.specs.Entries.{slot_entry, van_entry}
use Rattle.commands.specs.Limits.{line_bytes, slot_lines, van_lines}
use Rattle.commands.specs.Values.{letter_of}

-- a refusal by number and values, and the line that it is about
abbrev pub Fault : Type 0
Fault = (ℕ × List ℕ) × ℕ

abbrev pub is_letter : ℕ → Option ℕ → Bool
is_letter letter None = false
is_letter letter (Some c) = c == letter

-- whether a line's first field is this letter
abbrev pub begins : ℕ → List ℕ → Bool
begins letter line = is_letter letter (letter_of (fields line))

-- the lines at the front that begin with this letter
abbrev pub leading : ℕ → List (List ℕ) → List (List ℕ)
leading letter [] = []
leading letter (l ∷ ls) = cond (begins letter l) (l ∷ leading letter ls) []

-- A line of a kind that may stand `most` times, with so many of its kind before it:
-- 14 for more than 80 bytes, 16 for one too many, then what the kind itself checks.
abbrev pub checked : {X : Type 0} → ℕ → (List (List ℕ) → Result X (ℕ × List ℕ)) → ℕ → List ℕ → Result X (ℕ × List ℕ)
checked most entry before line = cond (nat_lt line_bytes (length line)) (Err (14, [])) (cond (nat_le most before) (Err (16, [])) (entry (fields line)))

-- an answer about the line of this number
abbrev pub at_line : {X : Type 0} → ℕ → Result X (ℕ × List ℕ) → Result X Fault
at_line line (Ok x) = Ok x
at_line line (Err e) = Err (e, line)

-- the entries taken so far and those of these lines, where the section's first line has the number `first`; the first bad line is refused
abbrev pub entries : {X : Type 0} → (ℕ → List ℕ → Result X (ℕ × List ℕ)) → ℕ → List X → List (List ℕ) → Result (List X) Fault
entries read first taken [] = Ok taken
entries read first taken (l ∷ ls) = and_then (at_line (first + length taken) (read (length taken) l)) (λ x. entries read first (taken ++ x ∷ []) ls)

-- the entries of a section, which has one line at least: refusal 15
abbrev pub section : {X : Type 0} → (ℕ → List ℕ → Result X (ℕ × List ℕ)) → ℕ → List (List ℕ) → Result (List X) Fault
section read first [] = Err ((15, []), first)
section read first (l ∷ ls) = entries read first [] (l ∷ ls)

-- 1 to 12 S lines, then 1 to 8 V lines; any other line ends the set-up
abbrev pub setup_of : List (List ℕ) → Result (List SlotEntry × List Van) Fault
setup_of ls =
    and_then (section (checked slot_lines slot_entry) 1 (leading 83 ls)) (λ slots.
    and_then (section (checked van_lines van_entry) (1 + length slots) (leading 86 (drop (length slots) ls))) (λ vans.
    Ok (slots, vans)))

-- from a to b so many lines were passed, each of which counts
abbrev pub Passed : ℕ → Numbered → Numbered → Type 0
Passed count a b = (lines_left b.lines ≡ drop count (lines_left a.lines)) × (b.number ≡ a.number + count)

-- an answer, with its refusal by number, values and line
abbrev pub faulted : {X : Type 0} → Result X SetupRefusal → Result X Fault
faulted (Ok x) = Ok x
faulted (Err e) = Err (refused e.refusal, e.line)

-- the entries that were read, or the fault
abbrev pub listed : {X : Type 0} → Result (Vec X Global) SetupRefusal → Result (List X) Fault
listed (Ok v) = Ok (vec_items v)
listed (Err e) = Err (refused e.refusal, e.line)

-- the same of a whole sheet
abbrev pub sheet : Result Setup SetupRefusal → Result (List SlotEntry × List Van) Fault
sheet (Ok s) = Ok (vec_items s.slots, vec_items s.vans)
sheet (Err e) = Err (refused e.refusal, e.line)
