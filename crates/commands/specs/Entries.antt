-- The entries of the set-up sheet: what the fields of one line of a kind say.
use Rattle.std.specs.Prelude.{ℕ, cond, List, [], length, Ok, Err, Result, ◌==◌}
use Rattle.layers.specs.Figures.{share_of, weight_of}
use Rattle.stops.specs.Refusals.{and_then, unless}
use Rattle.stops.specs.Slots.{slot_of}
use Rattle.vans.specs.declared.van.Van.{Van}
use Rattle.vans.specs.Vans.{van_of}
use Rattle.commands.specs.declared.setup.entry.SlotEntry.{SlotEntry}
use Rattle.commands.specs.Limits.{slot_fields, van_fields}
use Rattle.commands.specs.Values.{number_at}

-- what so many fields say, or else refusal 12
abbrev pub counted : {X : Type 0} → ℕ → List (List ℕ) → Result X (ℕ × List ℕ) → Result X (ℕ × List ℕ)
counted count fs said = cond (length fs == count) said (Err (12, []))

-- S open close places kept weight: the numbers from the left, then their ranges
abbrev pub slot_entry : List (List ℕ) → Result SlotEntry (ℕ × List ℕ)
slot_entry fs =
    counted slot_fields fs (
    and_then (number_at fs 1) (λ opens. and_then (number_at fs 2) (λ closes. and_then (number_at fs 3) (λ places.
    and_then (number_at fs 4) (λ kept. and_then (number_at fs 5) (λ units.
    and_then (unless 17 (slot_of opens closes)) (λ slot. and_then (unless 17 (share_of places kept)) (λ share. and_then (unless 17 (weight_of units)) (λ weight.
    Ok (record { slot = slot; share = share; weight = weight }))))))))))

-- V load start end: likewise
abbrev pub van_entry : List (List ℕ) → Result Van (ℕ × List ℕ)
van_entry fs =
    counted van_fields fs (and_then (number_at fs 1) (λ limit. and_then (number_at fs 2) (λ start. and_then (number_at fs 3) (λ end. unless 17 (van_of limit start end)))))
