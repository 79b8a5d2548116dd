use Rattle.std.proofs.Common.{vec_items, arith}
use Rattle.fleet.specs.Loads.{stops_of}
use Rattle.fleet.proofs.Counts.{tally_above}
use Rattle.vans.specs.Fleets.{rounds_of}
use Rattle.vans.specs.Rule.{load_of}
use Rattle.vans.proofs.Summing.{shown_more, all_shown}
use Rattle.vans.proofs.vanfleet.calls.VanFleetFleet.tally.Goals as goal

pub loop-round-preserved : goal.loop-round-preserved
loop-round-preserved c =
    let e = c.saturating_add-sum.ensures in
    shown_more (vec_items c.args.self.now.rounds) c.loop-round.round-index c.args.slot c.round-item.result c.loop-round.sum c.tally.result _ (omega (arith, c.args.self.now.rounds.ok.0)) (cc) c.loop-round.invariant c.tally.ensures e.privates e.trades e.units

pub returns : goal.returns
returns c =
    let f = c.args.self.now in
    let e = all_shown f c.loop-round.round-index c.args.slot c.loop-round.sum (omega (arith, f.rounds.ok.0)) c.loop-round.invariant in
    record { counts = e; above = λ h. tally_above c.loop-round.sum (stops_of (load_of (rounds_of f))) c.args.slot e h }
