use Rattle.sheets.specs.Books.{records}
use Rattle.sheets.proofs.Stretches.{joins}
use Rattle.sheets.proofs.account.write_rows.Goals as goal

pub returns-clause-joins : goal.returns-clause-joins
returns-clause-joins g c = joins (records c.args.book.now)
