use Rattle.std.proofs.Common.{sym, ap, ◌∙◌}
use Rattle.stops.specs.Limits.{last_minute}
use Rattle.stops.specs.Refusals.{unless}
use Rattle.stops.proofs.Made.{most}
use Rattle.vans.specs.Limits.{load_limit}
use Rattle.vans.proofs.van.Van.new.Goals as goal

pub returns : goal.returns
returns c =
    ap (unless 17) (sym (most 1 c.args.limit _ _ ∙ (most c.args.limit load_limit _ _ ∙ (most c.args.start c.args.end _ _ ∙ most c.args.end last_minute _ _))))
