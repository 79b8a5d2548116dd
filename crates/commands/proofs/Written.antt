-- A sheet that is written is read back.
use Rattle.std.proofs.Common.{◌≡◌, ℕ, ◌+◌, ◌<◌, ◌≤◌, true, cond, List, [], ◌∷◌, ◌++◌, map, length, drop, Ok, Result, sym, ap, ◌∙◌, append_assoc, append-nil, arith, length-append, le-ltb}
use borrow.Author.Tests.{lt-leb}
use Rattle.std.proofs.lemmas.List.{drop_at, length-map}
use Rattle.text.specs.Parts.{fields}
use Rattle.vans.specs.declared.van.Van.{Van}
use Rattle.commands.specs.declared.setup.entry.SlotEntry.{SlotEntry}
use Rattle.commands.specs.Entries.{slot_entry, van_entry}
use Rattle.commands.specs.Limits.{line_bytes, slot_lines, van_lines}
use Rattle.commands.specs.Setups.{begins, checked, entries, leading, section, setup_of}
use Rattle.commands.specs.Sheets.{Begins, slot_text, van_text}
use Rattle.commands.proofs.Entered.{slot_back, slot_begins, slot_length, van_back, van_begins, van_length, van_other}

-- ---- one kind of line: what it says, how it is written, and that this is read back
module _ {X : Type 0} (letter most : ℕ) (entry : List (List ℕ) → Result X (ℕ × List ℕ)) (text : X → List ℕ) (head : (x : X) → begins letter (text x) ≡ true) (short : (x : X) → length (text x) ≤ line_bytes) (back : (x : X) → entry (fields (text x)) ≡ Ok x) where
  -- the lines of the kind are just those at the front
  pub leading_all : (xs : List X) (rest : List (List ℕ)) → leading letter rest ≡ [] → leading letter (map text xs ++ rest) ≡ map text xs
  leading_all [] rest ended = ended
  leading_all (x ∷ xs) rest ended = simp (head x, leading_all xs rest ended)

  -- each is taken, as long as there are few enough
  line_checked : (before : ℕ) (x : X) → before < most → checked most entry before (text x) ≡ Ok x
  line_checked before x few = simp (le-ltb line_bytes (length (text x)) (short x), lt-leb most before few, back x)

  entries_all : (first : ℕ) (taken xs : List X) → length taken + length xs ≤ most → entries (checked most entry) first taken (map text xs) ≡ Ok (taken ++ xs)
  entries_all first taken [] few = ap Ok (sym (append-nil taken))
  entries_all first taken (x ∷ xs) few =
      simp (line_checked (length taken) x (omega arith)) (entries_all first (taken ++ x ∷ []) xs (omega (arith, length-append taken (x ∷ []))) ∙ ap Ok (append_assoc taken (x ∷ []) xs))

  pub section_all : (first : ℕ) (xs : List X) → 1 ≤ length xs → length xs ≤ most → section (checked most entry) first (map text xs) ≡ Ok xs
  section_all first [] some few = absurd (omega arith)
  section_all first (x ∷ xs) some few = entries_all first [] (x ∷ xs) (omega arith)

  -- the section at the front of these lines
  pub section_back : (first : ℕ) (xs : List X) (ls rest : List (List ℕ)) → ls ≡ map text xs ++ rest → leading letter rest ≡ [] → 1 ≤ length xs → length xs ≤ most → section (checked most entry) first (leading letter ls) ≡ Ok xs
  section_back first xs ls rest written ended some few =
      ap (λ ks. section (checked most entry) first (leading letter ks)) written ∙ ap (section (checked most entry) first) (leading_all xs rest ended) ∙ section_all first xs some few

-- no S line is among the V lines
slots_ended : (vans : List Van) (rest : List (List ℕ)) → 1 ≤ length vans → leading 83 (map van_text vans ++ rest) ≡ []
slots_ended [] rest some = absurd (omega arith)
slots_ended (v ∷ vans) rest some = ap (λ b. cond b (van_text v ∷ leading 83 (map van_text vans ++ rest)) []) (van_other v)

-- the whole sheet
pub sheet_back : (ls : List (List ℕ)) (slots : List SlotEntry) (vans : List Van) → Begins ls slots vans → setup_of ls ≡ Ok (slots, vans)
sheet_back ls slots vans b =
    let behind = map van_text vans ++ b.rest in
    let gone = ap (drop (length slots)) b.written ∙ drop_at (map slot_text slots) behind (length slots) (length-map slots slot_text) in
    let taken = section_back 83 slot_lines slot_entry slot_text slot_begins slot_length slot_back 1 slots ls behind b.written (slots_ended vans b.rest b.some_vans) b.some_slots b.few_slots in
    let manned = section_back 86 van_lines van_entry van_text van_begins van_length van_back (1 + length slots) vans (drop (length slots) ls) b.rest gone b.ended b.some_vans b.few_vans in
    simp (taken, manned)
