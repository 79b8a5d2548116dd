use Rattle.std.proofs.Common.{eqb, count_by, ap, arith, take_all, eq-eqb, ne_eqb}
use Rattle.std.proofs.lemmas.List.Sums.{count_by_more_yes, count_by_more_no}
use Rattle.text.proofs.Counted.{fields_counted}
use Rattle.text.proofs.fields.field_count.Goals as goal
use Rattle.text.proofs.fields.field_count.Goals.{then-b-eq32, else-b-eq32}

pub loop-b-preserved : goal.loop-b-preserved
loop-b-preserved c =
    elim c.if-b-eq32.branch [
      | then-b-eq32 w ↦ rw w.count-is (omega arith, omega (arith, c.loop-b.invariant.1, count_by_more_yes (λ b. eqb b 32) c.args.line.now c.loop-b.b-index 0 (omega arith) (eq-eqb _ _ w.if-b-eq32.true)))
      | else-b-eq32 w ↦ rw w.count-is (omega arith, omega (arith, c.loop-b.invariant.1, count_by_more_no (λ b. eqb b 32) c.args.line.now c.loop-b.b-index 0 (omega arith) (ne_eqb _ _ w.if-b-eq32.false)))
    ]

pub returns : goal.returns
returns c = omega (arith, c.loop-b.invariant.1, ap (count_by (λ b. eqb b 32)) (take_all c.loop-b.b-index c.args.line.now (omega arith)), fields_counted c.args.line.now)
