use Rattle.std.proofs.Common.{◌+◌, ◌<◌, drop, vec_items, vec_len, sym, ap, ◌∙◌, arith}
use Rattle.std.proofs.lemmas.List.{drop-drop}
use Rattle.std.proofs.lemmas.Result.{err_from_is_err_and}
use Rattle.text.specs.Lines.{lines_left}
use Rattle.stops.specs.Refusals.{coded}
use Rattle.commands.specs.Setups.{checked}
use Rattle.commands.proofs.Sections.{all_taken, line_refused, line_taken, taken_if}
use Rattle.commands.proofs.setup.sheet.reads.read_entries.Goals as goal

pub push_reserved-requires : goal.push_reserved-requires
push_reserved-requires g c =
    let fewer = taken_if (c.len.result < g.T.Entry.MOST) c.read_entry.result _ _ c.in_ok-at_line.ensures c.read_entry.ensures.fewer in
    omega (arith, fewer, c.len.ensures, c.loop-line.invariant.room)

pub returns-in_err-at_line-clause-value : goal.returns-in_err-at_line-clause-value
returns-in_err-at_line-clause-value g c =
    let p = err_from_is_err_and c.from_residual.result c.from_residual.ensures.1 in
    let first = c.args.left.now.number in
    let count = c.loop-line.taken.ok.0 in
    rw (p.1, p.2) (line_refused (checked g.T.Entry.MOST g.T.Entry.entry) g.T.Entry.LETTER first (vec_items c.loop-line.taken) (lines_left c.loop-line.left.lines) _ c.loop-line.invariant.same c.in-Some.line.now c.len.result c.loop-line.left.number (coded c.read_entry.result) (rw c.LETTER.ensures at c.in-Some.ensures) (c.len.ensures ∙ count) (c.loop-line.invariant.gone.1 ∙ ap (λ n. first + n) count) c.read_entry.ensures.value _ c.in_err-at_line.ensures)

pub loop-line-preserved : goal.loop-line-preserved
loop-line-preserved g c =
    let all = lines_left c.args.left.now.lines in
    let first = c.args.left.now.number in
    let count = c.loop-line.taken.ok.0 in
    let fewer = taken_if (c.len.result < g.T.Entry.MOST) c.read_entry.result _ _ c.in_ok-at_line.ensures c.read_entry.ensures.fewer in
    record {
      same = line_taken (checked g.T.Entry.MOST g.T.Entry.entry) g.T.Entry.LETTER first (vec_items c.loop-line.taken) (lines_left c.loop-line.left.lines) _ c.loop-line.invariant.same c.in-Some.line.now c.len.result c.loop-line.left.number (coded c.read_entry.result) (rw c.LETTER.ensures at c.in-Some.ensures) (c.len.ensures ∙ count) (c.loop-line.invariant.gone.1 ∙ ap (λ n. first + n) count) c.read_entry.ensures.value _ c.in_ok-at_line.ensures (vec_items c.push_reserved.new.self) (lines_left c.pass.new.self.lines) c.push_reserved.ensures.items c.pass.ensures.0;
      gone = (c.pass.ensures.0 ∙ ap (drop 1) c.loop-line.invariant.gone.0 ∙ drop-drop 1 (vec_len c.loop-line.taken) all ∙ sym (ap (λ n. drop n all) c.push_reserved.ensures.len), omega (arith, c.pass.ensures.1, c.loop-line.invariant.gone.1, c.push_reserved.ensures.len));
      few = omega (arith, c.push_reserved.ensures.len, fewer, c.len.ensures);
      room = omega (arith, c.push_reserved.ensures.capacity, c.loop-line.invariant.room);
    }

pub returns-clause-value : goal.returns-clause-value
returns-clause-value g c =
    all_taken (checked g.T.Entry.MOST g.T.Entry.entry) g.T.Entry.LETTER c.args.left.now.number (vec_items c.loop-line.taken) (lines_left c.loop-line.left.lines) _ c.loop-line.invariant.same (rw c.LETTER.ensures at c.in_default.ensures)
