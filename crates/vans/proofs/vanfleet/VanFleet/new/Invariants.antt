use Rattle.std.proofs.Common.{◌≡◌, ◌+◌, ◌≤◌, ◌++◌, vec_items, vec_len, vec_capacity}
use Rattle.std.specs.Slice.Iter.{iter_rest}
use Rattle.std.specs.Vec.Iter.{into_iter_len}
use Rattle.std.specs.Iterator.Adapters.{zip_first, zip_second}
use Rattle.vans.specs.Limits.{van_limit}
use Rattle.vans.specs.Fleets.{vans_in, rounds_in, cleared}
use Rattle.vans.proofs.vanfleet.VanFleet.new.Given as goal

abbrev pub invariant-loop-van : goal.invariant-loop-van
invariant-loop-van l =
    let left = iter_rest (zip_first l.van-iterator) in
    (van_limit ≤ vec_capacity l.rounds)
    × (van_limit ≤ into_iter_len (zip_second l.van-iterator) + vec_len l.rounds)
    × (vans_in (vec_items l.rounds) ++ left ≡ l.vans)
    × (rounds_in (vec_items l.rounds) ≡ cleared (vans_in (vec_items l.rounds)))
