use Rattle.queue.specs.Entries.{by_due}
use Rattle.queue.proofs.Kept.{added_heaped}
use Rattle.offers.proofs.agenda.Agenda.add.Goals as goal

pub invariant_of-self-clause-heaped : goal.invariant_of-self-clause-heaped
invariant_of-self-clause-heaped c =
    let a = c.args.self.now in
    added_heaped _ a.due c.add.new.self by_due c.args.entry c.add.result c.add.ensures a.heaped
