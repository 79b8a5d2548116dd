use Rattle.std.proofs.Common.{◌≡◌, ◌+◌, rules}
use Rattle.stops.specs.Places.{distance}
use Rattle.stops.proofs.Distances.{metric}
use Rattle.stops.proofs.place.Place.distance.Goals as goal

pub returns : goal.returns
unfolding distance
returns c =
    let value : c.abs_diff.result + c.abs_diff-2.result ≡ distance c.args.self.now c.args.to.now = search rules in
    record { value = value; metric = metric _ _ _ value }
