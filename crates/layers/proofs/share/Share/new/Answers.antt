use Rattle.std.proofs.Common.{sym, ap, ◌∙◌}
use Rattle.stops.specs.Refusals.{unless}
use Rattle.stops.proofs.Made.{most}
use Rattle.layers.specs.Limits.{place_limit}
use Rattle.layers.proofs.share.Share.new.Goals as goal

pub returns : goal.returns
returns c = ap (unless 17) (sym (most c.args.kept c.args.places _ _ ∙ most c.args.places place_limit _ _))
