use Rattle.std.proofs.Common.{◌≡◌, vec_items, arith, rules}
use Rattle.std.specs.Option.{option_map}
use Rattle.vans.specs.Better.{moved}
use Rattle.vans.specs.Fleets.{vans_in, rounds_in}
use Rattle.vans.specs.Uniqueness.{chosen_is}
use Rattle.vans.proofs.FleetSearch.{vans_more, all_below}
use Rattle.vans.proofs.vanfleet.VanFleet.cheapest.Goals as goal

pub loop-van-preserved : goal.loop-van-preserved
loop-van-preserved c =
    let e : c.map.result ≡ option_map (moved (λ k. record { van = c.loop-van.van-counter; position = k })) c.cheapest.result = search rules in
    vans_more (vec_items c.args.self.now.rounds) c.args.stop.now c.loop-van.van-counter c.round-item.result c.loop-van.best c.better-best.result c.cheapest.result (omega (arith, c.args.self.now.rounds.ok.0)) (cc) c.cheapest.ensures (cc) c.loop-van.invariant

pub returns : goal.returns
returns c =
    let rs = vec_items c.args.self.now.rounds in
    let x = all_below rs c.args.stop.now c.loop-van.van-counter c.loop-van.best (omega (arith, c.args.self.now.rounds.ok.0)) c.loop-van.invariant in
    record { value = chosen_is (vans_in rs) (rounds_in rs) c.args.stop.now c.loop-van.best x; cheapest = x }
