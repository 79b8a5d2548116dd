use Rattle.std.proofs.Common.{◌∙◌, arith}
use Rattle.queue.specs.Entries.{by_visit}
use Rattle.queue.proofs.Kept.{added_heaped, added_more, added_room}
use Rattle.sheets.proofs.visits.Visits.add.Goals as goal

pub invariant_of-self : goal.invariant_of-self
invariant_of-self c =
    let v = c.args.self.now in
    record { heaped = added_heaped _ v.queue c.add.new.self by_visit c.args.visit c.add.result c.add.ensures v.heaped; sized = added_room _ v.queue c.add.new.self c.args.visit c.add.result c.add.ensures ∙ v.sized; long = v.long }

pub returns : goal.returns
returns c =
    let v = c.args.self.now in
    added_more _ v.queue c.add.new.self c.args.visit c.add.result c.add.ensures (omega (arith, v.sized, c.requires))
