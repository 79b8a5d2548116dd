use Rattle.areas.specs.Held.{holding_theorem}
use Rattle.areas.proofs.holding.Holding.new.Goals as goal

pub returns-clause-theorem : goal.returns-clause-theorem
returns-clause-theorem g c = holding_theorem g.Q.Admission.own g.met.Q.Admission.lawful
