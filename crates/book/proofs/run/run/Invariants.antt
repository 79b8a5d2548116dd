use Rattle.std.proofs.Common.{◌≡◌, take}
use Rattle.book.specs.Books.{view}
use Rattle.book.specs.Logs.{entries_in}
use Rattle.book.proofs.Logged.{Upto}
use Rattle.book.proofs.run.run.Given as goal

-- all that is promised, of the calls so far
abbrev pub invariant-loop-call : goal.invariant-loop-call
invariant-loop-call g l = (l.log.room ≡ l.initial.log.room) × Upto g.F.Fleet (view g.F.Fleet l.initial.book) (entries_in l.log) l.book (take l.call-index l.calls)
