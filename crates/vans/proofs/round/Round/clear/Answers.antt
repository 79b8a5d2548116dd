use Rattle.std.proofs.Common.{vec_items, arith}
use Rattle.vans.specs.RoundFacts.{visits_none}
use Rattle.vans.proofs.round.Round.clear.Goals as goal

pub invariant_of-self : goal.invariant_of-self
invariant_of-self c =
    let e = c.clear.ensures in
    let w = visits_none c.args.self.now.van (vec_items c.clear.new.self) e.items in
    record { short = omega (arith, e.len); light = w.light; timely = ∣ w.timely ∣₁; room = omega (arith, e.capacity, c.args.self.now.room) }
