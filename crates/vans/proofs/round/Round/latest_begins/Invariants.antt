use Rattle.std.specs.Slice.Iter.{iter_rest}
use Rattle.std.specs.Iterator.Adapters.{rev_source, enumerate_source, enumerate_count}
use Rattle.vans.proofs.Backward.{Passed}
use Rattle.vans.proofs.round.Round.latest_begins.Given as goal

abbrev pub invariant-loop-i : goal.invariant-loop-i
invariant-loop-i l =
    let s = rev_source l.i-iterator in
    Passed l.self (enumerate_count s) (iter_rest (enumerate_source s)) l.next l.latest
