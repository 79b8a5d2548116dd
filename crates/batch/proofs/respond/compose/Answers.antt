use Rattle.std.proofs.Common.{arith}
use Rattle.batch.proofs.Responses.{response_long, response_read}
use Rattle.batch.proofs.respond.compose.Goals as goal

pub returns-then-input-gt-INPUT_BYTES : goal.returns-then-input-gt-INPUT_BYTES
returns-then-input-gt-INPUT_BYTES c = rw (response_long c.args.input.now (omega (arith, c.if-input-gt-INPUT_BYTES.true))) c.write_fault.ensures

pub returns-in-Ok : goal.returns-in-Ok
returns-in-Ok c = rw (response_read c.args.input.now (omega (arith, c.if-input-gt-INPUT_BYTES.false)), ← c.in-Ok.ensures) c.write_day.ensures

pub returns-in-Err : goal.returns-in-Err
returns-in-Err c = rw (response_read c.args.input.now (omega (arith, c.if-input-gt-INPUT_BYTES.false)), ← c.in-Err.ensures) c.write_fault-in-Err.ensures
