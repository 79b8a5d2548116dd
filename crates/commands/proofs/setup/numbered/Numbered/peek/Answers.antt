use Rattle.std.proofs.Common.{List, ℕ, Bor, ap, ◌∙◌}
use Rattle.std.specs.Option.{option_map}
use Rattle.text.specs.Lines.{lines_left}
use Rattle.commands.specs.Setups.{is_letter}
use Rattle.commands.specs.Values.{letter_of}
use Rattle.commands.proofs.Sections.{leading_first, leading_none}
use Rattle.commands.proofs.setup.numbered.Numbered.peek.Goals as goal

pub returns-in_err-line : goal.returns-in_err-line
returns-in_err-line c = rw c.from_residual.ensures (leading_none c.args.letter (lines_left c.args.self.now.lines) c.in_err-line.ensures)

pub returns : goal.returns
returns c =
    let now = λ (l : Bor (List ℕ)). l.now in
    let begins = c.begins.ensures ∙ ap (λ fs. is_letter c.args.letter (letter_of fs)) c.of.ensures in
    ap (option_map now) c.then_some.ensures ∙ leading_first now c.args.letter (lines_left c.args.self.now.lines) c.in_ok-line.line c.begins.result c.in_ok-line.ensures begins
