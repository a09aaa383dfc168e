use Rattle.std.proofs.Common.{◌∙◌, rules}
use lib.Ieee.{binary64}
use Rattle.scaling.proofs.Powers.{power_is}
use Rattle.scaling.proofs.power.F64Power.power.Goals as goal

pub returns : goal.returns
returns c = λ low high. search rules ∙ power_is binary64 c.args.n low high
