use Rattle.std.proofs.Common.{◌∙◌}
use Rattle.lines.proofs.Spelling.{shifted}
use Rattle.lines.proofs.digits.digit_at.Goals as goal

pub returns : goal.returns
returns c = c.byte_of.ensures ∙ shifted c.args.n c.args.place
