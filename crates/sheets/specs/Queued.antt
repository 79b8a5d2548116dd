-- The visits in the queue of a plan.
use Rattle.std.specs.Prelude.{List}
use Rattle.queue.specs.declared.visit.PlannedVisit.{PlannedVisit}
use Rattle.queue.specs.Queues.{entries}
use Rattle.sheets.specs.declared.visits.Visits.{Visits}

abbrev pub queued : Visits → List PlannedVisit
queued v = entries v.queue
