use Rattle.std.proofs.Common.{◌≡◌, ◌≤◌, ◌++◌, length, drop}
use Rattle.text.specs.Buffers.{content}
use Rattle.text.specs.Pieces.{line_of}
use Rattle.text.proofs.buffer.writes.LinePassage.write_to.Given as goal

abbrev pub invariant-loop-piece : goal.invariant-loop-piece
invariant-loop-piece l = (content l.buffer ++ line_of (drop l.piece-index l.self.pieces.now) ≡ content l.initial.buffer ++ line_of l.self.pieces.now) × (length (content l.initial.buffer) ≤ length (content l.buffer)) × (l.buffer.room ≡ l.initial.buffer.room)
