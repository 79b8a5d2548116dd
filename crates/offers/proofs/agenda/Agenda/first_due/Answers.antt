use Rattle.std.proofs.Common.{◌≡◌, rules}
use Rattle.queue.specs.Deadlines.{if_due}
use Rattle.offers.specs.Agendas.{next}
use Rattle.offers.proofs.Waiting.{first_come}
use Rattle.offers.proofs.agenda.Agenda.first_due.Goals as goal

pub returns-clause-first : goal.returns-clause-first
returns-clause-first c =
    let a = c.args.self.now in
    let value : c.filter.result ≡ if_due c.args.minute (next a) = search rules in
    rw value (first_come c.args.minute a.due c.peek.result c.peek.ensures.value c.peek.ensures.least a.heaped)
