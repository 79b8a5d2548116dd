use Rattle.vans.proofs.Backward.{pass_goes}
use Rattle.vans.proofs.round.Round.latest_begins.Goals as goal

pub loop-i-preserved : goal.loop-i-preserved
loop-i-preserved c =
    let s = c.in-Some.ensures.steps in
    pass_goes c.args.self.now _ _ c.in-Some.i _ _ c.in-Some.field-0-1.now c.loop-i.next c.before-next.result c.loop-i.latest s.0 s.1.0 s.1.1 c.before-next.ensures c.loop-i.invariant
