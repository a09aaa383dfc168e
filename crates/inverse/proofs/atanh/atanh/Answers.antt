use Rattle.std.proofs.Common.{T, sym, refl, ◌∙◌, subst}
use lib.Ieee.{binary64}
use Rattle.numeric.proofs.Cases.{agree}
use Rattle.numeric.proofs.Words.{nan_stays}
use Rattle.inverse.specs.Atanh.{atanh_of, bands_of}
use Rattle.inverse.proofs.Oddness.{atanh_odd}
use Rattle.inverse.proofs.Special.{atanh_bands}
use Rattle.inverse.proofs.atanh.atanh.Goals as goal

pub returns-then-is_nan : goal.returns-then-is_nan
returns-then-is_nan c = record { value = nan_stays atanh_of (unfold atanh_of in refl) c.args.x c.if-is_nan.ensures.value; odd = atanh_odd }

pub returns-else-is_nan : goal.returns-else-is_nan
returns-else-is_nan c = record { value = c.banded.ensures ∙ agree binary64 bands_of atanh_of atanh_bands c.args.x (subst T (sym c.well_formed.0.1) tt) c.if-is_nan.ensures.not_nan; odd = atanh_odd }
