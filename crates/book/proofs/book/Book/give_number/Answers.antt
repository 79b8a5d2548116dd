use Rattle.std.proofs.Common.{refl}
use Rattle.std.proofs.lemmas.Result.{err_from_is_err_and}
use Rattle.calls.specs.Causes.{stop_rows}
use Rattle.calls.proofs.Rows.{ahead}
use Rattle.book.specs.Books.{view}
use Rattle.book.proofs.book.Book.give_number.Goals as goal

pub returns-in_err-stop : goal.returns-in_err-stop
returns-in_err-stop g c =
    let b = view g.F.Fleet c.args.self.now in
    let p = err_from_is_err_and c.from_residual.result c.from_residual.ensures.1 in
    rw (p.1, p.2) (ahead (stop_rows b.table c.args.request) _ _ c.in_err-stop.ensures, refl)
