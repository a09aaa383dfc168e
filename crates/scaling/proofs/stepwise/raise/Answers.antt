use Rattle.std.proofs.Common.{◌∙◌, arith, rules}
use Rattle.std.proofs.lemmas.Int.{ints}
use Rattle.scaling.proofs.Whole.{up_once, up_again, up_out}
use Rattle.scaling.proofs.stepwise.raise.Goals as goal

pub returns-then-n-up : goal.returns-then-n-up
returns-then-n-up g c = search rules ∙ up_once g.F.Float.format (g.F.Float.float c.args.x) c.requires.fits c.args.up c.args.n c.requires.step c.requires.far

pub returns-then-n-up-2 : goal.returns-then-n-up-2
returns-then-n-up-2 g c = search rules ∙ up_again g.F.Float.format (g.F.Float.float c.args.x) c.requires.fits c.args.up c.args.n c.requires.step (omega (arith, ints))

pub returns : goal.returns
returns g c = search rules ∙ up_out g.F.Float.format (g.F.Float.float c.args.x) c.requires.fits c.args.up c.args.n c.requires.step (omega (arith, ints))
