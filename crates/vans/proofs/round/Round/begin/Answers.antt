use Rattle.std.proofs.Common.{◌≡◌, ◌<◌, length, get_or, vec_items, subst, arith}
use Rattle.std.proofs.lemmas.Grind.{common_steps}
use Rattle.vans.proofs.RoundSearch.{Left, left_day, left_more, begin_there}
use Rattle.vans.proofs.round.Round.begin.Goals as goal
use Rattle.vans.proofs.round.Round.begin.Goals.{After-after-leave}

pub after-leave-requires : goal.after-leave-requires
after-leave-requires c =
    let h : c.loop-stop.stop-index < length (vec_items c.args.self.now.visits) = grind (arith, common_steps) in
    let e : c.loop-stop-item.result ≡ get_or (vec_items c.args.self.now.visits) c.loop-stop.stop-index c.loop-stop-item.result = grind (arith, common_steps) in
    left_day c.args.self.now c.loop-stop.stop-index c.loop-stop-item.result c.loop-stop.leave h e c.loop-stop.invariant

pub loop-stop-preserved : goal.loop-stop-preserved
loop-stop-preserved c =
    let h : c.loop-stop.stop-index < length (vec_items c.args.self.now.visits) = grind (arith, common_steps) in
    let e : c.loop-stop-item.result ≡ get_or (vec_items c.args.self.now.visits) c.loop-stop.stop-index c.loop-stop-item.result = grind (arith, common_steps) in
    left_more c.args.self.now c.loop-stop.stop-index c.loop-stop-item.result c.loop-stop.leave h e c.loop-stop.invariant c.after-leave.result c.after-leave.ensures.from c.after-leave.ensures.minute

pub returns : goal.returns
returns c =
    let i : c.loop-stop.stop-index ≡ c.args.position = grind (arith, common_steps) in
    begin_there c.args.self.now c.args.position c.index.result.now c.loop-stop.leave (omega arith) c.index.ensures (subst (λ n. Left c.args.self.now n c.loop-stop.leave) i c.loop-stop.invariant) c.begin.result c.begin.ensures.value
