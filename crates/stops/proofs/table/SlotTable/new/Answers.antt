use Rattle.std.proofs.Common.{sym, ap}
use Rattle.stops.specs.Refusals.{unless}
use Rattle.stops.proofs.Made.{table_made}
use Rattle.stops.proofs.table.SlotTable.new.Goals as goal

pub returns : goal.returns
returns c = ap (unless 17) (sym (table_made _))
