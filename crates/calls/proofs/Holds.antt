-- An offer is held for some minutes: its deadline is later than the minute in which it is made.
use Rattle.std.proofs.Common.{ℕ, ◌<◌, List, arith}
use Rattle.stops.specs.declared.slot.Slot.{Slot}
use Rattle.stops.specs.declared.class.Class.{Class}
use Rattle.stops.specs.declared.class.Class.TheVariants.{Private, Trade}
use Rattle.stops.specs.declared.table.SlotTable.{SlotTable}
use Rattle.stops.specs.Slots.{slots_of}
use Rattle.calls.specs.Deadlines.{deadline, deadline_from}

pub deadline_from_later : (table : List Slot) (minute : ℕ) (class : Class) → minute < deadline_from table minute class
unfolding deadline_from
deadline_from_later table minute Private = omega arith
deadline_from_later table minute Trade = omega arith

pub deadline_later : (table : SlotTable) (minute : ℕ) (class : Class) → minute < deadline table minute class
deadline_later table minute class = deadline_from_later (slots_of table) minute class
