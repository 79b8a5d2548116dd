use Rattle.std.proofs.Common.{vec_items, arith}
use Rattle.vans.proofs.FleetSearch.{found_at, not_at}
use Rattle.vans.proofs.vanfleet.VanFleet.find.Goals as goal

pub returns-in-Some : goal.returns-in-Some
returns-in-Some c = found_at c.args.number (vec_items c.args.self.now.rounds) c.loop-van.van c.in-Some.position c.round-item.result (omega (arith, c.args.self.now.rounds.ok.0)) (cc) c.loop-van.invariant c.in-Some.ensures

pub loop-van-preserved : goal.loop-van-preserved
loop-van-preserved c = not_at c.args.number (vec_items c.args.self.now.rounds) c.loop-van.van c.round-item.result (omega (arith, c.args.self.now.rounds.ok.0)) (cc) c.loop-van.invariant c.in_default.ensures
