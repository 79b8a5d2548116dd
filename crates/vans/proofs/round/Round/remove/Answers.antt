use Rattle.std.proofs.Common.{vec_items, arith}
use Rattle.vans.specs.RoundFacts.{round_length, round_lawful, visits_removed}
use Rattle.vans.proofs.round.Round.remove.Goals as goal

pub invariant_of-self : goal.invariant_of-self
invariant_of-self c =
    let w = visits_removed c.args.self.now.van (vec_items c.args.self.now.visits) (vec_items c.remove.new.self) _ c.remove.ensures.items (omega (arith, round_length c.args.self.now)) (round_lawful c.args.self.now) in
    record { short = omega (arith, c.remove.ensures.len, c.args.self.now.short); light = w.light; timely = ∣ w.timely ∣₁; room = omega (arith, c.remove.ensures.capacity, c.args.self.now.room) }
