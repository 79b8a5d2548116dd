use Rattle.std.proofs.Common.{vec_items, Option, sym, ap, ◌∙◌, arith}
use Rattle.std.proofs.Math.Seq.{map-set_same}
use Rattle.std.specs.List.{insert}
use Rattle.fleet.specs.Loads.{Load}
use Rattle.vans.specs.declared.round.Round.{Round}
use Rattle.vans.specs.declared.van.Van.{Van}
use Rattle.vans.specs.Cheapest.{Choice}
use Rattle.vans.specs.Fleets.{rounds_of, with_stop}
use Rattle.vans.specs.RoundFacts.{round_length}
use Rattle.vans.proofs.FleetSearch.{chosen_here}
use Rattle.vans.proofs.OneRound.{rounds_set}
use Rattle.vans.proofs.vanfleet.calls.VanFleetFleet.place.Goals as goal

pub index_mut-requires : goal.index_mut-requires
index_mut-requires c =
    let rs = c.args.self.now.rounds in
    let f = chosen_here (vec_items rs) c.args.stop.now c.cheapest.result c.in_ok-best.best c.in_ok-best.ensures.ok_part c.cheapest.ensures.cheapest in
    omega (arith, f.0, rs.ok.0)

pub insert-requires : goal.insert-requires
insert-requires c =
    let f = chosen_here (vec_items c.args.self.now.rounds) c.args.stop.now c.cheapest.result c.in_ok-best.best c.in_ok-best.ensures.ok_part c.cheapest.ensures.cheapest in
    let h = f.1 c.index_mut.result.now c.index_mut.ensures.value in
    record { within = omega (arith, h.0, round_length c.index_mut.result.now); lawful = h.1 }

pub returns-clause-setup : goal.returns-clause-setup
returns-clause-setup c =
    let van : Round → Van = λ (r : Round). r.van in
    map-set_same van (vec_items c.args.self.now.rounds) c.in_ok-best.best.at.van c.insert.new.self c.index_mut.result.now (c.insert.ensures.van ∙ ap van c.index_mut.ensures.value)

pub returns-clause-standing : goal.returns-clause-standing
returns-clause-standing c =
    let rs = c.args.self.now.rounds in
    let b = c.in_ok-best.best in
    let is = c.in_ok-best.ensures.ok_part in
    let f = chosen_here (vec_items rs) c.args.stop.now c.cheapest.result b is c.cheapest.ensures.cheapest in
    rounds_set (λ (l : Load). insert l b.at.position ((c.args.number, c.args.stop.now))) (vec_items rs) b.at.van c.index_mut.result.now c.insert.new.self f.0 c.index_mut.ensures.value c.insert.ensures.visits
    ∙ ap (λ (o : Option Choice). with_stop (rounds_of c.args.self.now) o c.args.number c.args.stop.now) (sym is ∙ c.cheapest.ensures.value)
