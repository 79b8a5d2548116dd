-- A van, made by tests.
use Rattle.std.specs.Prelude.{ℕ, Some, Option}
use Rattle.stops.specs.Limits.{last_minute}
use Rattle.stops.specs.Tests.{when_most}
use Rattle.vans.specs.declared.van.Van.{Van}
use Rattle.vans.specs.Limits.{load_limit}

-- the van with a load limit of 1 to 1000 units, out from start to end on one day
abbrev pub van_of : ℕ → ℕ → ℕ → Option Van
van_of limit start end =
    when_most 1 limit (λ s. when_most limit load_limit (λ m. when_most start end (λ o. when_most end last_minute (λ d.
    Some (record { limit = limit; start = start; end = end; some = s; most = m; ordered = o; day = d })))))
