use Rattle.std.proofs.Common.{arith}
use Rattle.std.proofs.lemmas.Fmt.{length-decimal-le}
use Rattle.text.proofs.buffer.Buffer.add_number.Goals as goal

pub returns-in_err-len : goal.returns-in_err-len
returns-in_err-len c = absurd (omega (arith, length-decimal-le 10 c.args.n (omega arith) (omega arith) (omega arith), c.in_err-len.ensures.1))
