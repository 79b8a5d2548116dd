use Rattle.std.proofs.Common.{◌-◌, length, arith}
use Rattle.std.proofs.lemmas.Fmt.{decimal_digit, decimal_nonempty}
use Rattle.std.proofs.lemmas.Grind.{common_steps}
use Rattle.text.proofs.Digits.{more_figures, too_long}
use Rattle.text.proofs.figures.+write_number.Goals as goal

pub returns-then-len-eq0 : goal.returns-then-len-eq0
returns-then-len-eq0 t c = grind (arith, common_steps, decimal_nonempty)

pub returns-then-n-lt10 : goal.returns-then-n-lt10
returns-then-n-lt10 t c = grind (arith, common_steps, decimal_digit)

pub returns-in_err-at : goal.returns-in_err-at
returns-in_err-at t c = grind (arith, common_steps, too_long)

pub returns : goal.returns
returns t c = more_figures c.args.n c.args.out.now c.write_number.new.out (length c.args.out.now - 1 - 0) (omega arith) (omega arith) (omega arith) c.in_ok-at.at c.in_ok-at.ensures
