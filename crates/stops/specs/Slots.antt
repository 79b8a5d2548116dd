-- Slots and the slot table.
use Rattle.std.specs.Prelude.{ℕ, List, Some, vec_items, vec_len, Option, Vec}
use Rattle.std.specs.declared.alloc.Global.{Global}
use Rattle.stops.specs.declared.slot.Slot.{Slot}
use Rattle.stops.specs.declared.table.SlotTable.{SlotTable}
use Rattle.stops.specs.Limits.{last_minute, slot_limit}
use Rattle.stops.specs.Tests.{when_below, when_most}

-- the slot from one minute to a later one of the same day
abbrev pub slot_of : ℕ → ℕ → Option Slot
slot_of opens closes = when_below opens closes (λ a. when_most closes last_minute (λ d. Some (record { opens = opens; closes = closes; apart = a; day = d })))

-- the table of these slots, if there are 1 to 12
abbrev pub table_of : Vec Slot Global → Option SlotTable
table_of slots = when_most 1 (vec_len slots) (λ s. when_most (vec_len slots) slot_limit (λ f. Some (record { slots = slots; some = s; few = f })))

-- the slots of a table in order: the first has the number 0
abbrev pub slots_of : SlotTable → List Slot
slots_of t = vec_items t.slots
