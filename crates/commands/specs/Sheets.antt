-- A set-up sheet as it is written.
use Rattle.std.specs.Prelude.{◌≡◌, ℕ, ◌≤◌, List, [], ◌∷◌, ◌++◌, map, length, codes, decimal}
use Rattle.text.specs.Spaced.{spaced}
use Rattle.vans.specs.declared.van.Van.{Van}
use Rattle.commands.specs.declared.setup.entry.SlotEntry.{SlotEntry}
use Rattle.commands.specs.Limits.{slot_lines, van_lines}
use Rattle.commands.specs.Setups.{leading}

-- S open close places kept weight
abbrev pub slot_text : SlotEntry → List ℕ
slot_text e = spaced (codes "S") (decimal e.slot.opens ∷ (decimal e.slot.closes ∷ (decimal e.share.places ∷ (decimal e.share.kept ∷ (decimal e.weight.count ∷ [])))))

-- V load start end
abbrev pub van_text : Van → List ℕ
van_text v = spaced (codes "V") (decimal v.limit ∷ (decimal v.start ∷ (decimal v.end ∷ [])))

-- Lines that begin with a sheet of these slots and vans.
pub record Begins (ls : List (List ℕ)) (slots : List SlotEntry) (vans : List Van) : Type 0 where
  -- what stands behind the sheet
  pub rest : List (List ℕ)
  pub written : ls ≡ map slot_text slots ++ (map van_text vans ++ rest)
  -- the sheet ends there: no V line follows
  pub ended : leading 86 rest ≡ []
  -- 1 to 12 slots and 1 to 8 vans
  pub some_slots : 1 ≤ length slots
  pub few_slots : length slots ≤ slot_lines
  pub some_vans : 1 ≤ length vans
  pub few_vans : length vans ≤ van_lines
