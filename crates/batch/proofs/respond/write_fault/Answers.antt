use Rattle.std.proofs.Common.{arith}
use Rattle.stops.specs.Refusals.{number}
use Rattle.batch.specs.Response.{fault_line}
use Rattle.batch.proofs.Responses.{fault_short, grown}
use Rattle.batch.proofs.respond.write_fault.Goals as goal

pub returns : goal.returns
returns c =
    let fault = c.args.fault in
    let added = rw (c.from.ensures, c.number.ensures) at c.add_line.ensures in
    grown (fault_line (number fault.refusal) fault.line) c.args.text.now c.add_line.result c.add_line.new.self added (omega (arith, c.requires, fault_short (number fault.refusal) fault.line (omega (arith, c.number.ensures)) (omega arith)))
