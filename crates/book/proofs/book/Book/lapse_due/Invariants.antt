use Rattle.std.proofs.Common.{◌≡◌, length}
use Rattle.stops.specs.Slots.{slots_of}
use Rattle.calls.specs.Lapses.{due, lapses}
use Rattle.calls.specs.Views.{taken_all}
use Rattle.offers.specs.Tables.{rows}
use Rattle.book.proofs.book.Book.lapse_due.Given as goal

-- what is still to lapse and to leave comes to the same
abbrev pub invariant-loop-number : goal.invariant-loop-number
invariant-loop-number g l =
    let f = g.F.Fleet in
    let u = f.setup l.initial.self.fleet in
    (slots_of l.self.table ≡ slots_of l.initial.self.table)
    × (f.setup l.self.fleet ≡ u)
    × (lapses l.minute (rows l.self.offers) ≡ lapses l.minute (rows l.initial.self.offers))
    × (taken_all f.meaning u (f.standing l.self.fleet) (due l.minute (rows l.self.offers))
    ≡ taken_all f.meaning u (f.standing l.initial.self.fleet) (due l.minute (rows l.initial.self.offers)))

abbrev pub decreases-loop-number : goal.decreases-loop-number
decreases-loop-number g l = length (due l.minute (rows l.self.offers))
