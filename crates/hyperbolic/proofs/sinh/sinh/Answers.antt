use Rattle.std.proofs.Common.{T, sym, refl, ◌∙◌, subst}
use lib.Ieee.{binary64}
use Rattle.numeric.proofs.Cases.{agree}
use Rattle.numeric.proofs.Words.{nan_stays}
use Rattle.hyperbolic.specs.Sinh.{sinh_of, bands_of}
use Rattle.hyperbolic.proofs.Oddness.{sinh_odd}
use Rattle.hyperbolic.proofs.Special.{sinh_bands}
use Rattle.hyperbolic.proofs.sinh.sinh.Goals as goal

pub returns-then-is_nan : goal.returns-then-is_nan
returns-then-is_nan c = record { value = nan_stays sinh_of (unfold sinh_of in refl) c.args.x c.if-is_nan.ensures.value; odd = sinh_odd }

pub returns-else-is_nan : goal.returns-else-is_nan
returns-else-is_nan c = record { value = c.banded.ensures ∙ agree binary64 bands_of sinh_of sinh_bands c.args.x (subst T (sym c.well_formed.0.1) tt) c.if-is_nan.ensures.not_nan; odd = sinh_odd }
