use Rattle.text.proofs.Growing.{Left}
use Rattle.sheets.specs.Accounts.{stretch}
use Rattle.sheets.specs.Books.{records}
use Rattle.sheets.proofs.account.RowsPassage.write_to.Given as goal

-- the rows that are left
abbrev pub invariant-loop-number : goal.invariant-loop-number
invariant-loop-number g l = Left l.initial.buffer (stretch (records l.self.book.now) l.self.from l.self.to) l.buffer (stretch (records l.self.book.now) l.number l.self.to)
