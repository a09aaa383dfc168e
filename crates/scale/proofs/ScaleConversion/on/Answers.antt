use Rattle.std.proofs.Common.{rules}
use Rattle.std.specs.Float.{binary64}
use Rattle.scale.specs.Laws.{scaled_is_number, scaling_all}
use Rattle.scale.proofs.ScaleConversion.on.Goals as goal

pub returns-clause-within : goal.returns-clause-within
returns-clause-within c =
    let all = scaling_all binary64 c.args.self.now.exponent in
    let number = scaled_is_number binary64 in
    search rules
