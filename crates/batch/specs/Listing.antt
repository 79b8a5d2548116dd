-- What is written of a set-up sheet.
use Rattle.std.specs.Prelude.{ℕ, suc, List, [], ◌∷◌, ◌++◌, length, codes, decimal}
use Rattle.commands.specs.declared.setup.entry.SlotEntry.{SlotEntry}
use Rattle.vans.specs.declared.van.Van.{Van}

-- slot N open close places kept weight
abbrev pub slot_line : ℕ → SlotEntry → List ℕ
slot_line n e =
    codes "slot " ++ (decimal n ++ (codes " " ++ (decimal e.slot.opens ++ (codes " " ++ (decimal e.slot.closes ++ (codes " " ++ (decimal e.share.places ++ (codes " " ++ (decimal e.share.kept ++ (codes " " ++ (decimal e.weight.count ++ 10 ∷ [])))))))))))

-- van N load start end
abbrev pub van_line : ℕ → Van → List ℕ
van_line n v = codes "van " ++ (decimal n ++ (codes " " ++ (decimal v.limit ++ (codes " " ++ (decimal v.start ++ (codes " " ++ (decimal v.end ++ 10 ∷ [])))))))

-- a line for each, numbered from n
abbrev pub numbered : {X : Type 0} → (ℕ → X → List ℕ) → ℕ → List X → List ℕ
numbered line n [] = []
numbered line n (x ∷ xs) = line n x ++ numbered line (suc n) xs

-- how many there are of a kind, and each of them, numbered from 0
abbrev pub section : {X : Type 0} → List ℕ → (ℕ → X → List ℕ) → List X → List ℕ
section kind line xs = (kind ++ (decimal (length xs) ++ 10 ∷ [])) ++ numbered line 0 xs

-- the slots, then the vans
abbrev pub listing : List SlotEntry → List Van → List ℕ
listing slots vans = section (codes "slots ") slot_line slots ++ section (codes "vans ") van_line vans
