use Rattle.std.proofs.Common.{◌≡◌, ℕ, Bool, true, cond, vec_items, ap, ◌∙◌, arith}
use Rattle.std.proofs.lemmas.List.{length-map}
use Rattle.stops.specs.declared.stop.Stop.{Stop}
use Rattle.fleet.specs.Loads.{Load}
use Rattle.vans.specs.RoundFacts.{room_inserted, visits_inserted}
use Rattle.vans.proofs.round.Round.insert.Goals as goal

-- what an insertion leaves that was done
done : (b : Bool) (xs ys zs : Load) → b ≡ true → zs ≡ cond b ys xs → zs ≡ ys
done b xs ys zs t e = e ∙ ap (λ d. cond d ys xs) t

pub invariant_of-self : goal.invariant_of-self
invariant_of-self c =
    let r = c.args.self.now in
    let e = c.insert.ensures in
    let ok = e.succeeds (room_inserted r c.args.position c.args.visit.1 c.requires.within c.requires.lawful) in
    let w = visits_inserted r.van (vec_items r.visits) (vec_items c.insert.new.self) c.args.position c.args.visit (done _ _ _ _ ok e.items) c.requires.lawful in
    let n = length-map (vec_items c.insert.new.self) (λ (x : ℕ × Stop). x.1) in
    record { short = omega (arith, n, w.short, c.insert.new.self.ok.0); light = w.light; timely = ∣ w.timely ∣₁; room = omega (arith, e.capacity, r.room) }
