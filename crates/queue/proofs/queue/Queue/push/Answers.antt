use Rattle.std.proofs.Common.{heap_items, refl, arith}
use lib.ListN.{length-map}
use Rattle.queue.proofs.Heaps.{pushed}
use Rattle.queue.proofs.queue.Queue.push.Goals as goal

pub returns : goal.returns
returns g c =
    let items = heap_items c.args.self.now.heap in
    let did = c.push.ensures in
    let some = length-map items (λ r. r.0) in
    let h = pushed g.T.Ord.cmp c.args.entry items _ c.push.result (did.succeeds (omega arith)) did.permutation did.heap_order in
    (h.0, refl, h.1)
