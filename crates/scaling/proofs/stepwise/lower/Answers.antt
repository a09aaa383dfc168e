use Rattle.std.proofs.Common.{◌∙◌, arith, rules}
use Rattle.std.proofs.lemmas.Int.{ints}
use Rattle.scaling.proofs.Whole.{down_once, down_again, down_out}
use Rattle.scaling.proofs.stepwise.lower.Goals as goal

pub returns-then-n-down : goal.returns-then-n-down
returns-then-n-down g c = search rules ∙ down_once g.F.Float.format (g.F.Float.float c.args.x) c.requires.fits c.args.down c.args.n c.requires.step c.requires.far

pub returns-then-n-down-2 : goal.returns-then-n-down-2
returns-then-n-down-2 g c = search rules ∙ down_again g.F.Float.format (g.F.Float.float c.args.x) c.requires.fits c.args.down c.args.n c.requires.step (omega (arith, ints))

pub returns : goal.returns
returns g c = search rules ∙ down_out g.F.Float.format (g.F.Float.float c.args.x) c.requires.fits c.args.down _ c.args.n c.requires.step c.least.ensures (omega (arith, ints))
