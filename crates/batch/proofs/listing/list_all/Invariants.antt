use Rattle.std.proofs.Common.{drop}
use Rattle.text.proofs.Growing.{Left}
use Rattle.batch.specs.Listing.{numbered}
use Rattle.batch.proofs.listing.list_all.Given as goal

-- what is left to list
abbrev pub invariant-loop-n : goal.invariant-loop-n
invariant-loop-n g l = Left l.initial.text (numbered g.T.Listed.line 0 l.items) l.text (numbered g.T.Listed.line l.n (drop l.n l.items))
