use Rattle.std.proofs.Common.{sym, ap}
use Rattle.stops.specs.Refusals.{unless}
use Rattle.stops.proofs.Made.{most}
use Rattle.stops.proofs.atmost.AtMost.new.Goals as goal

pub returns : goal.returns
returns g c = ap (unless 17) (sym (most c.args.count g.row.MOST _ _))
