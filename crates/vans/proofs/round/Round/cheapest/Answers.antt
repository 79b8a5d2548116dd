use Rattle.std.proofs.Common.{◌≡◌, ◌<◌, ◌+◌, length, get_or, vec_items, subst, arith}
use Rattle.vans.specs.Fleets.{stops_in}
use Rattle.vans.specs.RoundFacts.{round_length}
use Rattle.vans.proofs.RoundSearch.{Left, Searched, left_day, left_more, arrives, arrives_last, turn, finish}
use Rattle.vans.proofs.round.Round.cheapest.Goals as goal

pub after-left-requires : goal.after-left-requires
after-left-requires c = left_day c.args.self.now c.loop-i.i c.visit-item.result c.loop-i.leave (omega (arith, c.args.self.now.visits.ok.0)) (cc) c.loop-i.invariant.0

pub loop-i-preserved : goal.loop-i-preserved
loop-i-preserved c =
    let r = c.args.self.now in
    let h : c.loop-i.i < length (vec_items r.visits) = omega (arith, r.visits.ok.0) in
    let e : c.visit-item.result ≡ get_or (vec_items r.visits) c.loop-i.i c.visit-item.result = cc in (
      left_more r c.loop-i.i c.visit-item.result c.loop-i.leave h e c.loop-i.invariant.0 c.after-left.result c.after-left.ensures.from c.after-left.ensures.minute,
      turn r c.args.stop.now c.loop-i.i c.loop-i.leave _ c.loop-i.best c.insertion.result c.better-best.result c.loop-i.invariant.0
          (arrives r c.loop-i.i c.visit-item.result c.loop-i.leave h e c.loop-i.invariant.0 _ (c.latest_begins-latest.ensures c.loop-i.i (omega arith)))
          c.insertion.ensures c.better-best.ensures c.loop-i.invariant.1,
    )

pub returns : goal.returns
returns c =
    let r = c.args.self.now in
    let room = c.has_room.ensures.0 c.if-not-has_room.false in
    let n : c.loop-i.i ≡ c.len-end.result = omega arith in
    let m : c.len-end.result ≡ length (stops_in r) = omega (arith, round_length r) in
    let t = turn r c.args.stop.now c.len-end.result c.loop-i.leave c.arrival.result c.loop-i.best c.insertion-2.result c.better.result
    (subst (λ k. Left r k c.loop-i.leave) n c.loop-i.invariant.0)
    (arrives_last r c.len-end.result c.arrival.result (omega arith) c.arrival.ensures)
    c.insertion-2.ensures c.better.ensures
    (subst (λ k. Searched r.van (stops_in r) c.args.stop.now k c.loop-i.best) n c.loop-i.invariant.1) in
    finish r.van (stops_in r) c.args.stop.now c.better.result (omega (arith, room.0)) room.1 (subst (λ k. Searched r.van (stops_in r) c.args.stop.now (k + 1) c.better.result) m t)
