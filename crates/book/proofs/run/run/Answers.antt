use Rattle.std.proofs.Common.{◌∙◌}
use Rattle.book.specs.Books.{view}
use Rattle.book.specs.Logs.{entries_in}
use Rattle.book.proofs.Logged.{one_more}
use Rattle.book.proofs.run.run.Goals as goal

pub loop-call-preserved : goal.loop-call-preserved
loop-call-preserved g c =
    let f = g.F.Fleet in
    let inv = c.loop-call.invariant in (
      c.add.ensures.room ∙ inv.0,
      one_more f (view f c.open-book.result) (entries_in c.loop-call.log) (entries_in c.add.new.self) c.loop-call.book c.call-answer.new.self c.args.calls.now c.loop-call.call-index _ c.call-answer.result c.loop-call-test.true c.add.ensures.entries c.call-answer.ensures.does c.call-answer.ensures.passes inv.1,
    )
