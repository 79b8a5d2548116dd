use Rattle.std.proofs.Common.{◌≡◌, refl, rules}
use Rattle.std.specs.Option.{option_map}
use Rattle.queue.proofs.Heaps.{taken}
use Rattle.queue.proofs.queue.Queue.take.Goals as goal

pub returns-clause-left : goal.returns-clause-left
returns-clause-left g c =
    let same : c.map.result ≡ option_map (λ e. e.0) c.pop.result = search rules in
    let gave = c.pop.ensures in
    rw same (taken g.T.Ord.cmp c.args.self.now _ c.pop.result refl gave.permutation gave.heap_order gave.none gave.unchanged)
