use Rattle.std.proofs.Common.{vec_items, arith}
use Rattle.vans.specs.RoundFacts.{visits_none}
use Rattle.vans.proofs.round.Round.new.Goals as goal

pub invariant_of-result : goal.invariant_of-result
invariant_of-result c =
    let w = visits_none c.args.van (vec_items c.into_list.result) c.into_list.ensures.items in
    record { short = omega (arith, c.into_list.ensures.len); light = w.light; timely = ∣ w.timely ∣₁; room = c.into_list.ensures.room }
