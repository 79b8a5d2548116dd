use Rattle.std.proofs.Common.{ap, ◌∙◌}
use Rattle.commands.specs.Calls.{command}
use Rattle.commands.proofs.Called.{action_back}
use Rattle.commands.proofs.line.reads.read_call.Goals as goal

pub returns : goal.returns
returns c = record { value = c.parse.ensures; back = λ k few plain is. c.parse.ensures ∙ ap command is ∙ action_back k.minute k.action few plain }
