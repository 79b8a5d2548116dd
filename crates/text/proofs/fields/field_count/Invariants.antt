use Rattle.std.proofs.Common.{◌≡◌, ◌≤◌, take, eqb, count_by}
use Rattle.text.proofs.fields.field_count.Given as goal

abbrev pub invariant-loop-b : goal.invariant-loop-b
invariant-loop-b l = (l.count ≤ l.b-index) × (l.count ≡ count_by (λ b. eqb b 32) (take l.b-index l.line))
