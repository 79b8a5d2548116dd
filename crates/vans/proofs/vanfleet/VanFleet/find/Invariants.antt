use Rattle.std.proofs.Common.{◌≡◌, false, take}
use Rattle.fleet.specs.Loads.{held}
use Rattle.vans.specs.Rule.{load_of}
use Rattle.vans.specs.Fleets.{rounds_of}
use Rattle.vans.proofs.vanfleet.VanFleet.find.Given as goal

abbrev pub invariant-loop-van : goal.invariant-loop-van
invariant-loop-van l = held l.number (load_of (take l.van (rounds_of l.self))) ≡ false
