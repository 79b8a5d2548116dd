use Rattle.queue.proofs.TakenDue.{taken, not_yet}
use Rattle.queue.proofs.due.Queue+Due.take_due.Goals as goal

pub returns-then-first-clock-clause-first : goal.returns-then-first-clock-clause-first
returns-then-first-clock-clause-first c =
    let look = c.in_ok-first.ensures in
    (not_yet c.args.clock c.args.self.now c.in_ok-first.first.now look.value c.if-first-clock.true look.least).1

pub returns-clause-first : goal.returns-clause-first
returns-clause-first c =
    taken c.args.clock c.args.self.now c.in_ok-first.first.now c.take.result c.take.new.self c.in_ok-first.ensures.value c.if-first-clock.false c.take.ensures.value c.take.ensures.left
