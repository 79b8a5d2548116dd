use Rattle.std.proofs.Common.{[], ◌∷◌}
use Rattle.std.proofs.lemmas.List.{at_drop_more, at_drop_all}
use Rattle.std.proofs.lemmas.Result.{err_from_is_err_and}
use Rattle.text.specs.Pieces.{line_of}
use Rattle.text.proofs.Growing.{partly, next_refused, last_added}
use Rattle.text.proofs.buffer.writes.LinePassage.write_to.Goals as goal

pub returns-in_err-add_piece : goal.returns-in_err-add_piece
returns-in_err-add_piece c =
    let p = err_from_is_err_and c.from_residual.result c.from_residual.ensures.1 in
    rw (p.1, p.2) (next_refused c.args.buffer.now _ c.loop-piece.buffer c.add_piece.new.self _ _ _ _ c.loop-piece.invariant (at_drop_more line_of c.args.self.now.pieces.now c.loop-piece.piece-index _ c.loop-piece-test.true) c.in_err-add_piece.ensures)

pub returns : goal.returns
returns c =
    let left = rw (at_drop_all line_of c.args.self.now.pieces.now c.loop-piece.piece-index c.loop-piece-test.false) at c.loop-piece.invariant in
    last_added c.args.buffer.now _ c.loop-piece.buffer c.add.new.self (10 ∷ []) c.add.result left (partly (10 ∷ []) c.loop-piece.buffer c.add.result c.add.new.self c.add.ensures)
