use Rattle.std.proofs.Common.{◌≡◌, take}
use Rattle.fleet.specs.Loads.{stops_of}
use Rattle.fleet.specs.Tallies.{tallied, shown}
use Rattle.fleet.proofs.load.tally_of.Given as goal

abbrev pub invariant-loop-stop : goal.invariant-loop-stop
invariant-loop-stop l = l.tally ≡ shown (tallied (stops_of (take l.stop-index l.load)) l.slot)
