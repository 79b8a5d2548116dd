use Rattle.book.proofs.Carried.{made}
use Rattle.book.proofs.book.Book.call.Goals as goal

pub returns : goal.returns
returns g c = made g.F.Fleet g.met.F.Fleet.lawful _ _ _ _ c.answer.ensures
