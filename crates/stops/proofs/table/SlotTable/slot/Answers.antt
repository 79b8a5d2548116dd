use Rattle.std.proofs.Common.{arith}
use Rattle.std.proofs.lemmas.Option.{slice_get-get_or, slice_get_past, slice_get_read}
use Rattle.stops.proofs.table.SlotTable.slot.Goals as goal

pub returns : goal.returns
returns c = let h = c.get.ensures.lookup in let d = c.deref.ensures.value in grind (arith, slice_get-get_or, slice_get_past, slice_get_read, h)
