-- The figures of one slot, made by tests.
use Rattle.std.specs.Prelude.{ℕ, Some, Option}
use Rattle.stops.specs.declared.atmost.AtMost.{AtMost}
use Rattle.stops.specs.Counts.{at_most}
use Rattle.stops.specs.Tests.{when_most}
use Rattle.layers.specs.declared.share.Share.{Share}
use Rattle.layers.specs.Limits.{place_limit, weight_limit}

-- so many places, of which no more are kept than there are
abbrev pub share_of : ℕ → ℕ → Option Share
share_of places kept = when_most kept places (λ w. when_most places place_limit (λ f. Some (record { places = places; kept = kept; within = w; few = f })))

-- at most so many units
abbrev pub WeightLimit : Type 0
WeightLimit = AtMost weight_limit

abbrev pub weight_of : ℕ → Option WeightLimit
weight_of units = at_most weight_limit units
