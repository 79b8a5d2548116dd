use Rattle.std.proofs.Common.{◌≡◌, take}
use Rattle.vans.specs.Fleets.{cleared, rounds_in, vans_in}
use Rattle.vans.proofs.vanfleet.calls.VanFleetFleet.clear.Given as goal

abbrev pub invariant-loop-round : goal.invariant-loop-round
invariant-loop-round l =
    (vans_in l.round-items ≡ vans_in l.initial.round-items)
    × (take l.round-index (rounds_in l.round-items) ≡ cleared (take l.round-index (vans_in l.initial.round-items)))
