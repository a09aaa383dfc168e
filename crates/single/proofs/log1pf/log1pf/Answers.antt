use Rattle.std.proofs.Common.{T, sym, refl, ◌∙◌, subst}
use lib.Ieee.{binary32}
use Rattle.numeric.proofs.Cases.{tested}
use Rattle.logarithm.specs.Log1p.{tests_of, single}
use Rattle.single.specs.Log1pf.{log1pf_of}
use Rattle.single.proofs.Special.{log1pf_tests}
use Rattle.single.proofs.log1pf.log1pf.Goals as goal

pub returns : goal.returns
returns c = c.in_bands.ensures ∙ tested binary32 (tests_of single) log1pf_of log1pf_tests (unfold log1pf_of in refl) c.args.x (subst T (sym c.well_formed.0.1) tt)
