use Rattle.std.proofs.Common.{arith, length-take}
use Rattle.queue.proofs.Drained.{begun, one_placed, more_left, all_placed}
use Rattle.queue.proofs.queue.Queue.drain_into.Goals as goal
use Rattle.queue.proofs.queue.Queue.drain_into.Goals.{in-Some, in_default}

pub loop-place-init : goal.loop-place-init
loop-place-init g c = begun g.T.Ord.cmp c.args.self.now

pub loop-place-preserved : goal.loop-place-preserved
loop-place-preserved g c =
    let k = c.loop-place in
    let cut = length-take c.len-count.result c.args.list.now in
    elim c.match-take.branch [
      | in-Some w ↦ rw w.place-items-is (one_placed g.T.Ord.cmp c.args.self.now k.place-items k.place-index k.self (omega (arith, cut)) k.invariant w.in-Some.entry c.take.new.self (omega arith) w.in-Some.ensures.left)
      | in_default w ↦ absurd (more_left g.T.Ord.cmp c.args.self.now k.place-items k.place-index k.self (omega (arith, cut)) k.invariant c.take.new.self (omega arith) w.in_default.ensures.left)
    ]

pub returns : goal.returns
returns g c =
    let cut = length-take c.len-count.result c.args.list.now in
    all_placed g.T.Ord.cmp c.args.self.now c.loop-place.place-items c.loop-place.place-index c.loop-place.self (omega (arith, cut)) c.loop-place.invariant c.args.list.now c.len-count.result (omega (arith, cut)) (omega arith)
