use Rattle.std.proofs.Common.{heap_items, rules}
use Rattle.queue.proofs.Heaps.{peeked}
use Rattle.queue.proofs.queue.Queue.peek.Goals as goal

pub returns-clause-least : goal.returns-clause-least
returns-clause-least g c = peeked g.T.Ord.cmp c.peek.result c.map.result (heap_items c.args.self.now.heap) (search rules) c.peek.ensures.greatest
