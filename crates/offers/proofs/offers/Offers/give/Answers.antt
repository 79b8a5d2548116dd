use Rattle.std.proofs.Common.{◌≡◌, suc, ◌<◌, ◌≤◌, List, ◌∷◌, length, vec_items, vec_len, vec_capacity, arith}
use mathlib.Core.List.{Perm}
use Rattle.std.proofs.lemmas.Bool.Decides.{nat_tests}
use Rattle.queue.proofs.Permuted.{length_perm}
use Rattle.queue.specs.declared.due.Due.{Due}
use Rattle.calls.specs.declared.record.Record.{Record}
use Rattle.offers.specs.Agendas.{awaited}
use Rattle.calls.specs.Limits.{number_limit}
use Rattle.offers.specs.Queued.{Undue}
use Rattle.offers.proofs.Fitting.{in_time, undue_push, listed_open, known_open}
use Rattle.offers.proofs.offers.Offers.give.Goals as goal
use Rattle.offers.proofs.offers.Offers.give.Goals.{After-push_reserved}

-- there was a number left, and it is the next one
left : (c : After-push_reserved) → (length (vec_items c.args.self.now.records) < number_limit) × (c.in_ok-number.number ≡ suc (length (vec_items c.args.self.now.records)))
left c = let e = c.in_ok-number.ensures in grind (arith, nat_tests)

-- what holds with the new record, whether it is open or not
more : (c : After-push_reserved) → (vec_len c.push_reserved.new.self ≤ number_limit) × (number_limit ≤ vec_capacity c.push_reserved.new.self) × Undue c.args.self.now.clock (vec_items c.push_reserved.new.self)
more c =
    let o = c.args.self.now in
    let later = in_time o.clock c.args.record.state (cc) in
    (omega (arith, c.push_reserved.ensures.len, o.records.ok.0, (left c).0), omega (arith, c.push_reserved.ensures.capacity, o.room), undue_push (vec_items o.records) (vec_items c.push_reserved.new.self) c.args.record c.push_reserved.ensures.items o.clock later o.undue)

pub invariant_of-self : goal.invariant_of-self
invariant_of-self c =
    let o = c.args.self.now in
    let rs : List Record = vec_items o.records in
    let rs' : List Record = vec_items c.push_reserved.new.self in
    let xs : List Due = awaited o.agenda in
    let ys : List Due = awaited c.add.new.self in
    let w = c.push_reserved.ensures.items in
    let x : Due = record { deadline = c.in-Open.deadline; number = c.in_ok-number.number } in
    let put : Perm (x ∷ xs) ys = c.add.ensures in
    let long : suc (length xs) ≡ length ys = length_perm (x ∷ xs) ys put in
    let n = (left (goal.at.invariant_of-self c).After-push_reserved).1 in
    let short : length ys ≤ vec_len c.push_reserved.new.self = omega (arith, long, o.short, c.push_reserved.ensures.len) in
    let all = more (goal.at.invariant_of-self c).After-push_reserved in
    record { few = all.0; room = all.1; short = short; listed = listed_open rs rs' c.args.record w x xs ys c.in-Open.is n put o.listed; known = known_open rs rs' c.args.record w x xs ys c.in-Open.is n put o.known; undue = all.2 }
