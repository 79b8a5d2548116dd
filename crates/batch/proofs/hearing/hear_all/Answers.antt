use Rattle.std.proofs.Common.{drop, length, refl, ap, subst, arith, length-append}
use Rattle.std.specs.List.{flat_map}
use Rattle.text.specs.Buffers.{content}
use Rattle.text.specs.Parts.{lines}
use Rattle.text.proofs.Growing.{Left, ended, next_added}
use Rattle.batch.specs.Heard.{heard}
use Rattle.batch.proofs.Behind.{behind, next_behind, none_behind}
use Rattle.batch.proofs.Brief.{heard_short}
use Rattle.batch.proofs.hearing.hear_all.Goals as goal

pub returns-in_err-hear_line : goal.returns-in_err-hear_line
returns-in_err-hear_line c =
    let road = behind c.into_iter-line-iterator.result c.of.result c.args.passed (lines c.args.input.now) (cc) (cc) c.of.ensures in
    let next = next_behind road c.loop-line.yielded c.loop-line.line-iterator c.loop-line.yielded_by c.next.result c.next.new.self c.in-Some.line c.in-Some.is c.next.ensures.steps in
    absurd (omega (arith, c.in_err-hear_line.ensures.1, heard_short c.in-Some.line.now, c.loop-line.invariant.room, ap length next))

pub loop-line-preserved : goal.loop-line-preserved
loop-line-preserved c =
    let all = drop c.args.passed (lines c.args.input.now) in
    let whole = flat_map heard all in
    let said = heard c.in-Some.line.now in
    let road = behind c.into_iter-line-iterator.result c.of.result c.args.passed (lines c.args.input.now) (cc) (cc) c.of.ensures in
    let next = next_behind road c.loop-line.yielded c.loop-line.line-iterator c.loop-line.yielded_by c.next.result c.next.new.self c.in-Some.line c.in-Some.is c.next.ensures.steps in
    record {
      left = next_added c.args.text.now whole c.loop-line.text c.hear_line.new.text said tt _ _ c.loop-line.invariant.left (ap (flat_map heard) next) c.in_ok-hear_line.ensures;
      room = omega (arith, ap length c.in_ok-hear_line.ensures.0, length-append (content c.loop-line.text) said, c.in_ok-hear_line.ensures.1, heard_short c.in-Some.line.now, c.loop-line.invariant.room, ap length next);
    }

pub returns : goal.returns
returns c =
    let whole = flat_map heard (drop c.args.passed (lines c.args.input.now)) in
    let road = behind c.into_iter-line-iterator.result c.of.result c.args.passed (lines c.args.input.now) (cc) (cc) c.of.ensures in
    let none = none_behind road c.loop-line.yielded c.loop-line.line-iterator c.loop-line.yielded_by c.next.result c.next.new.self c.in-None.is c.next.ensures.steps in
    let done = ended c.args.text.now whole c.loop-line.text tt (subst (λ ls. Left c.args.text.now whole c.loop-line.text (flat_map heard ls)) none c.loop-line.invariant.left) in
    (refl, done.0, done.1)
