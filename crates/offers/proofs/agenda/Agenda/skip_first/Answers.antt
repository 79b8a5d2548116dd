use Rattle.queue.specs.Entries.{by_due}
use Rattle.queue.proofs.Kept.{taken_heaped}
use Rattle.offers.proofs.agenda.Agenda.skip_first.Goals as goal

pub invariant_of-self-clause-heaped : goal.invariant_of-self-clause-heaped
invariant_of-self-clause-heaped c =
    let a = c.args.self.now in
    taken_heaped _ a.due c.take.new.self by_due c.take.result c.take.ensures.left a.heaped
