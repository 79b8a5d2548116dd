use Rattle.std.proofs.Common.{◌≡◌, ◌^◌, ◌<◌, drop}
use Rattle.text.specs.Numbers.{reading}
use Rattle.text.proofs.numbers.read_figures.Given as goal

abbrev pub invariant-loop-b : goal.invariant-loop-b
invariant-loop-b l = (l.n < 10 ^ l.b-index) × (reading 0 l.field ≡ reading l.n (drop l.b-index l.field))
