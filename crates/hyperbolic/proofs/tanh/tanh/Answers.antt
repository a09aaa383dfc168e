use Rattle.std.proofs.Common.{T, sym, refl, ◌∙◌, subst}
use lib.Ieee.{binary64}
use Rattle.numeric.proofs.Cases.{agree}
use Rattle.numeric.proofs.Words.{nan_stays}
use Rattle.hyperbolic.specs.Tanh.{tanh_of, bands_of}
use Rattle.hyperbolic.proofs.Oddness.{tanh_odd}
use Rattle.hyperbolic.proofs.Special.{tanh_bands}
use Rattle.hyperbolic.proofs.tanh.tanh.Goals as goal

pub returns-then-is_nan : goal.returns-then-is_nan
returns-then-is_nan c = record { value = nan_stays tanh_of (unfold tanh_of in refl) c.args.x c.if-is_nan.ensures.value; odd = tanh_odd }

pub returns-else-is_nan : goal.returns-else-is_nan
returns-else-is_nan c = record { value = c.banded.ensures ∙ agree binary64 bands_of tanh_of tanh_bands c.args.x (subst T (sym c.well_formed.0.1) tt) c.if-is_nan.ensures.not_nan; odd = tanh_odd }
