use Rattle.std.proofs.Common.{◌≡◌, length}
use Rattle.offers.specs.Agendas.{awaited}
use Rattle.offers.specs.Tables.{rows}
use Rattle.offers.proofs.offers.Offers.lapse_first.Given as goal

abbrev pub invariant-loop-first : goal.invariant-loop-first
invariant-loop-first l = (rows l.self ≡ rows l.initial.self) × (l.self.clock ≡ l.initial.self.clock)

abbrev pub decreases-loop-first : goal.decreases-loop-first
decreases-loop-first l = length (awaited l.self.agenda)
