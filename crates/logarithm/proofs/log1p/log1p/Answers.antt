use Rattle.std.proofs.Common.{T, sym, refl, ◌∙◌, subst}
use lib.Ieee.{binary64}
use Rattle.numeric.proofs.Cases.{tested}
use Rattle.logarithm.specs.Log1p.{log1p_of, tests_of, double}
use Rattle.logarithm.proofs.Special.{log1p_tests}
use Rattle.logarithm.proofs.log1p.log1p.Goals as goal

pub returns : goal.returns
returns c = c.in_bands.ensures ∙ tested binary64 (tests_of double) log1p_of log1p_tests (unfold log1p_of in refl) c.args.x (subst T (sym c.well_formed.0.1) tt)
