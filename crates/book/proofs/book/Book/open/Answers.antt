use Rattle.stops.specs.Slots.{slots_of}
use Rattle.calls.proofs.Whole.{whole_opened}
use Rattle.book.proofs.book.Book.open.Goals as goal

pub returns-clause-theorem : goal.returns-clause-theorem
returns-clause-theorem g c =
    let f = g.F.Fleet in
    let m = c.cleared.ensures in
    rw (m.setup, m.standing, c.new.ensures.records, c.new.ensures.time) (whole_opened f.meaning g.met.F.Fleet.lawful (slots_of c.args.table) (f.setup c.args.fleet))
