use Rattle.std.proofs.Common.{◌≡◌, ◌≤◌, vec_len, vec_capacity}
use Rattle.vans.specs.Limits.{van_limit}
use Rattle.vans.proofs.memory.Memory.reserve.Given as goal

abbrev pub invariant-loop : goal.invariant-loop
invariant-loop l = (vec_len l.visits ≡ l.counter) × (van_limit ≤ vec_capacity l.visits)
