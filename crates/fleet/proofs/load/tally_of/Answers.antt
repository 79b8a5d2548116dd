use Rattle.std.proofs.Common.{ap, ◌∙◌}
use Rattle.std.proofs.lemmas.List.{take_all}
use Rattle.fleet.specs.Loads.{Load, stops_of}
use Rattle.fleet.specs.Tallies.{tallied, shown}
use Rattle.fleet.proofs.Counts.{shown_more, shown_few, shown_all}
use Rattle.fleet.proofs.load.tally_of.Goals as goal

pub loop-stop-preserved : goal.loop-stop-preserved
loop-stop-preserved c =
    let e = c.one.ensures in
    let a = c.saturating_add-tally.ensures in
    shown_more c.args.load.now c.loop-stop.stop-index c.args.slot c.loop-stop-item.result c.loop-stop.tally c.one.result c.saturating_add-tally.result c.loop-stop-test.true c.loop-stop-item.is c.loop-stop.invariant e.privates e.trades e.units a.privates a.trades a.units

pub returns : goal.returns
returns c =
    let l = c.args.load.now in
    let value = c.loop-stop.invariant ∙ ap (λ (k : Load). shown (tallied (stops_of k) c.args.slot)) (take_all c.loop-stop.stop-index l c.loop-stop-test.false) in
    record { value = value; counts = shown_all _ l c.args.slot value; few = shown_few _ l c.args.slot value }
