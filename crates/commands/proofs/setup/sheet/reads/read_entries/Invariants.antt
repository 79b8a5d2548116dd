use Rattle.std.proofs.Common.{◌≡◌, ◌≤◌, [], length, vec_items, vec_len, vec_capacity}
use Rattle.text.specs.Lines.{lines_left}
use Rattle.commands.specs.Setups.{Passed, checked, entries, leading}
use Rattle.commands.proofs.setup.sheet.reads.read_entries.Given as goal

-- what is left gives the same, and the lines that were taken are gone
abbrev pub invariant-loop-line : goal.invariant-loop-line
invariant-loop-line g l =
    record {
      same : entries (checked g.T.Entry.MOST g.T.Entry.entry) l.initial.left.number (vec_items l.taken) (leading g.T.Entry.LETTER (lines_left l.left.lines)) ≡ entries (checked g.T.Entry.MOST g.T.Entry.entry) l.initial.left.number [] (leading g.T.Entry.LETTER (lines_left l.initial.left.lines));
      gone : Passed (vec_len l.taken) l.initial.left l.left;
      few : vec_len l.taken ≤ g.T.Entry.MOST;
      room : g.T.Entry.MOST ≤ vec_capacity l.taken;
    }

abbrev pub decreases-loop-line : goal.decreases-loop-line
decreases-loop-line g l = length (lines_left l.left.lines)
