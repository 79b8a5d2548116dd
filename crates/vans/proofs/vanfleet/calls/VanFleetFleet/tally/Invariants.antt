use Rattle.std.proofs.Common.{◌≡◌, take}
use Rattle.fleet.specs.Loads.{stops_of}
use Rattle.fleet.specs.Tallies.{shown, tallied}
use Rattle.vans.specs.Fleets.{rounds_of}
use Rattle.vans.specs.Rule.{load_of}
use Rattle.vans.proofs.vanfleet.calls.VanFleetFleet.tally.Given as goal

abbrev pub invariant-loop-round : goal.invariant-loop-round
invariant-loop-round l = l.sum ≡ shown (tallied (stops_of (load_of (take l.round-index (rounds_of l.self)))) l.slot)
