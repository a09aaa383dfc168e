use Rattle.std.proofs.Common.{T, sym, refl, ◌∙◌, subst}
use lib.Ieee.{binary64}
use Rattle.numeric.proofs.Cases.{agree}
use Rattle.numeric.proofs.Words.{nan_stays}
use Rattle.inverse.specs.Acosh.{acosh_of, tests_of}
use Rattle.inverse.proofs.Special.{acosh_tests}
use Rattle.inverse.proofs.acosh.acosh.Goals as goal

pub returns-then-is_nan : goal.returns-then-is_nan
returns-then-is_nan c = nan_stays acosh_of (unfold acosh_of in refl) c.args.x c.if-is_nan.ensures.value

pub returns-else-is_nan : goal.returns-else-is_nan
returns-else-is_nan c = c.tested.ensures ∙ agree binary64 tests_of acosh_of acosh_tests c.args.x (subst T (sym c.well_formed.0.1) tt) c.if-is_nan.ensures.not_nan
