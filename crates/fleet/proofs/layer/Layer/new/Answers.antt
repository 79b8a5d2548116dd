use Rattle.fleet.specs.Layering.{layer_theorem}
use Rattle.fleet.proofs.layer.Layer.new.Goals as goal

pub returns-clause-theorem : goal.returns-clause-theorem
returns-clause-theorem g c = layer_theorem g.R.OwnRule.own g.F.Fleet.meaning g.met.R.OwnRule.lawful g.met.F.Fleet.lawful
