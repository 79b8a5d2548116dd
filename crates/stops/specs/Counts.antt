-- Counts with a limit, made by a test.
use Rattle.std.specs.Prelude.{ℕ, Some, Option}
use Rattle.stops.specs.declared.atmost.AtMost.{AtMost}
use Rattle.stops.specs.Tests.{when_most}

-- the count, if it is at most the limit
abbrev pub at_most : (limit : ℕ) → ℕ → Option (AtMost limit)
at_most limit n = when_most n limit (λ f. Some (record { count = n; few = f }))
