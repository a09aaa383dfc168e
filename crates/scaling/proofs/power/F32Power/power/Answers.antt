use Rattle.std.proofs.Common.{◌∙◌, rules}
use lib.Ieee.{binary32}
use Rattle.scaling.proofs.Powers.{power_is}
use Rattle.scaling.proofs.power.F32Power.power.Goals as goal

pub returns : goal.returns
returns c = λ low high. search rules ∙ power_is binary32 c.args.n low high
