use Rattle.std.proofs.Common.{◌∙◌, rules}
use Rattle.scaling.proofs.Whole.{by_power}
use Rattle.scaling.proofs.stepwise.scale.Goals as goal

pub returns : goal.returns
returns g c = search rules ∙ by_power g.F.Float.format (g.F.Float.float c.args.x) c.args.n
