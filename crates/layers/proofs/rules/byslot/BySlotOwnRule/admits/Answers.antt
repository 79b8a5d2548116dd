use Rattle.std.proofs.Common.{◌≡◌, get_or, arith}
use Rattle.std.proofs.lemmas.List.{get_or_default}
use Rattle.fleet.specs.Loads.{stops_of}
use Rattle.fleet.proofs.Counts.{shown_cons}
use Rattle.layers.specs.BySlots.{figures_at}
use Rattle.layers.specs.Tested.{slot_tested}
use Rattle.layers.proofs.rules.byslot.BySlotOwnRule.admits.Goals as goal

pub returns : goal.returns
returns g c =
    let s = c.args.stop.now in
    let l = stops_of (g.F.Fleet.meaning.load (g.F.Fleet.standing c.args.below.now)) in
    let one = c.one.ensures in
    let sum = c.saturating_add-tally.ensures in
    let tally = shown_cons s l s.slot c.tally-held.result c.one.result c.saturating_add-tally.result c.tally-held.ensures.counts one.privates one.trades one.units sum.privates sum.trades sum.units in
    let figures : get_or c.args.self.now.figures c.from.result _ ≡ figures_at g.T.SlotFigures.rule c.args.self.now s.slot = rw (← c.from.ensures) (get_or_default c.args.self.now.figures c.from.result _ _ (omega arith)) in
    slot_tested g.T.SlotFigures.rule g.met.T.SlotFigures.lawful _ _ _ s l c.allows.result figures tally c.allows.ensures
