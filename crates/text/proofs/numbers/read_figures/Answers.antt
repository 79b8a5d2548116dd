use Rattle.std.proofs.Common.{◌≤◌, arith}
use native.Mathlib.Nat.{pow-le-pow_right}
use Rattle.text.proofs.numbers.read_figures.Goals as goal

pub returns-clause-bound : goal.returns-clause-bound
returns-clause-bound c = let few : c.loop-b.b-index ≤ 6 = omega arith in omega (arith, pow-le-pow_right {n = 10} (omega arith) few)
