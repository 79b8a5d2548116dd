-- What a response comes to, and that none is longer than the room reserved for it.
use Rattle.std.proofs.Common.{◌≡◌, ℕ, suc, ◌+◌, ◌*◌, ◌^◌, ◌<◌, ◌≤◌, true, false, cond, eqb, List, [], ◌∷◌, length, Ok, Err, codes, vec_items, Result, refl, ap, ◌∙◌, arith, length-append, le-ltb, lt-ltb}
use Rattle.std.proofs.lemmas.Fmt.{length-decimal-le}
use Rattle.commands.specs.declared.setup.entry.SlotEntry.{SlotEntry}
use Rattle.commands.specs.declared.setup.sheet.Setup.{Setup}
use Rattle.commands.specs.Setups.{setup_of}
use Rattle.commands.proofs.Entered.{five}
use Rattle.commands.proofs.Written.{sheet_back}
use Rattle.stops.specs.declared.refusal.Refusal.{Refusal}
use Rattle.text.specs.declared.buffer.Buffer.{Buffer}
use Rattle.text.specs.Buffers.{Added, content}
use Rattle.text.specs.Parts.{ahead, lines}
use Rattle.vans.specs.declared.van.Van.{Van}
use Rattle.batch.specs.Listing.{listing, numbered, section, slot_line, van_line}
use Rattle.batch.specs.Response.{Grown, ReadBack, answered, fault_line, response}

pub fault_short : (n line : ℕ) → n < 256 → line < 2 ^ 32 → length (fault_line n line) ≤ 100
fault_short n line h k =
    let a = five n (omega arith) in
    let b = length-decimal-le 10 line (omega arith) (omega arith) (omega arith) in
    simp length-append (omega arith)

slot_short : (n : ℕ) (e : SlotEntry) → n < 100 → length (slot_line n e) ≤ 60
slot_short n e h =
    let a = five n (omega arith) in
    let b = five e.slot.opens (omega (arith, e.slot.apart, e.slot.day)) in
    let c = five e.slot.closes (omega (arith, e.slot.day)) in
    let d = five e.share.places (omega (arith, e.share.few)) in
    let f = five e.share.kept (omega (arith, e.share.few, e.share.within)) in
    let i = five e.weight.count (omega (arith, e.weight.few)) in
    simp length-append (omega arith)

van_short : (n : ℕ) (v : Van) → n < 100 → length (van_line n v) ≤ 60
van_short n v h =
    let a = five n (omega arith) in
    let b = five v.limit (omega (arith, v.most)) in
    let c = five v.start (omega (arith, v.ordered, v.day)) in
    let d = five v.end (omega (arith, v.day)) in
    simp length-append (omega arith)

numbered_short : {X : Type 0} (line : ℕ → X → List ℕ) → ((n : ℕ) (x : X) → n < 100 → length (line n x) ≤ 60) → (n : ℕ) (xs : List X) → n + length xs ≤ 100 → length (numbered line n xs) ≤ 60 * length xs
numbered_short line short n [] h = omega arith
numbered_short line short n (x ∷ xs) h = omega (arith, length-append (line n x) (numbered line (suc n) xs), short n x (omega arith), numbered_short line short (suc n) xs (omega arith))

section_short : {X : Type 0} (kind : List ℕ) (line : ℕ → X → List ℕ) → length kind ≤ 10 → ((n : ℕ) (x : X) → n < 100 → length (line n x) ≤ 60) → (xs : List X) → length xs ≤ 12 → length (section kind line xs) ≤ 800
section_short kind line few short xs h =
    let a = five (length xs) (omega arith) in
    let b = numbered_short line short 0 xs (omega arith) in
    simp length-append (omega arith)

pub listing_short : (s : Setup) → length (listing (vec_items s.slots) (vec_items s.vans)) ≤ 2000
listing_short s =
    let slots = section (codes "slots ") slot_line (vec_items s.slots) in
    let vans = section (codes "vans ") van_line (vec_items s.vans) in
    let a = section_short (codes "slots ") slot_line (omega arith) slot_short (vec_items s.slots) (omega (arith, s.slots.ok.0, s.fewslots)) in
    let b = section_short (codes "vans ") van_line (omega arith) van_short (vec_items s.vans) (omega (arith, s.vans.ok.0, s.fewvans)) in
    omega (arith, length-append slots vans)

-- what is answered to a long input, and to one that is read
pub response_long : (input : List ℕ) → 60000 < length input → response input ≡ fault_line 14 0
response_long input h = rw (lt-ltb 60000 (length input) h)

pub response_read : (input : List ℕ) → length input ≤ 60000 → response input ≡ answered (lines input) (setup_of (lines input))
response_read input h = rw (le-ltb 60000 (length input) h)

pub read_back : (input : List ℕ) → ReadBack input
read_back input slots vans begins few = response_read input few ∙ ap (answered (lines input)) (sheet_back (lines input) slots vans begins)

-- a text that has room is added
pub grown : (text : List ℕ) (a : Buffer) (r : Result (Unit {0}) Refusal) (b : Buffer) → Added text a r b → length (content a) + length text ≤ a.room → Grown text a r b
grown text a (Ok u) b h room = (refl, h.0, h.1)
grown text a (Err e) b h room = absurd (omega (arith, h.1, room))

-- no input has more lines than bytes
few_ahead : (c : ℕ) (ps : List (List ℕ)) → length (ahead c ps) ≤ suc (length ps)
few_ahead c [] = omega arith
few_ahead c (p ∷ ps) = omega arith

pub lines_few : (bs : List ℕ) → length (lines bs) ≤ length bs
lines_few [] = omega arith
lines_few (c ∷ cs) = elim (eqb c 10) as (λ b. length (cond b ([] ∷ lines cs) (ahead c (lines cs))) ≤ suc (length cs)) [ true ↦ omega (arith, lines_few cs) | false ↦ omega (arith, few_ahead c (lines cs), lines_few cs) ]
