use Rattle.std.proofs.Common.{◌+◌, ◌*◌, ◌≤◌, length, drop}
use Rattle.std.specs.List.{flat_map}
use Rattle.text.specs.Buffers.{content}
use Rattle.text.specs.Parts.{lines}
use Rattle.text.proofs.Growing.{Left}
use Rattle.batch.specs.Heard.{heard}
use Rattle.batch.proofs.hearing.hear_all.Given as goal

-- what is left to hear, and that there is room for it
abbrev pub invariant-loop-line : goal.invariant-loop-line
invariant-loop-line l =
    let all = drop l.passed (lines l.input) in
    let rest = drop (length l.yielded) all in
    record { left : Left l.initial.text (flat_map heard all) l.text (flat_map heard rest); room : length (content l.text) + 80 * length rest ≤ l.text.room }
