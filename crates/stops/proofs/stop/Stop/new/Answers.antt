use Rattle.std.proofs.Common.{sym, ap}
use Rattle.stops.specs.Refusals.{unless}
use Rattle.stops.proofs.Made.{stop_made}
use Rattle.stops.proofs.stop.Stop.new.Goals as goal

pub returns : goal.returns
returns c = ap (unless 17) (sym (stop_made c.args.slot c.args.units c.args.hours c.args.place c.args.class _ _ _))
