-- How long an offer is held.
use Rattle.std.specs.Prelude.{ℕ, ◌+◌, List}
use Rattle.stops.specs.declared.slot.Slot.{Slot}
use Rattle.stops.specs.declared.table.SlotTable.{SlotTable}
use Rattle.stops.specs.Slots.{slots_of}
use Rattle.stops.specs.declared.class.Class.{Class}
use Rattle.stops.specs.declared.class.Class.TheVariants.{Private, Trade}
use Rattle.calls.specs.Limits.{private_hold, trade_hold}

-- in minutes
abbrev pub hold : Class → ℕ
hold Private = private_hold
hold Trade = trade_hold

-- the deadline of an offer that is made at this minute, in a book with these slots
unfoldable pub deadline_from : List Slot → ℕ → Class → ℕ
deadline_from slots minute class = minute + hold class

-- the same, in a book that was opened with this slot table
abbrev pub deadline : SlotTable → ℕ → Class → ℕ
deadline table minute class = deadline_from (slots_of table) minute class
