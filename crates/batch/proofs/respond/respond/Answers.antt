use Rattle.std.proofs.Common.{ℕ, List, ◌++◌, length, ap, ◌∙◌, arith}
use Rattle.batch.specs.Response.{response}
use Rattle.batch.proofs.Responses.{read_back}
use Rattle.batch.proofs.respond.respond.Goals as goal

pub returns : goal.returns
returns c =
    let input = c.args.input.now in
    let grown = c.in_ok-compose.ensures in
    let is = grown.1 ∙ ap (λ (t : List ℕ). t ++ response input) c.args.work.blank in
    record {
      written = rw is at c.write.ensures;
      short = omega (arith, ap length is, c.compose.new.text.within, c.compose.new.text.bytes.ok.0, grown.2, c.args.work.room);
      back = read_back input;
    }
