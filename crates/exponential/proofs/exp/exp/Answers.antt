use Rattle.std.proofs.Common.{T, sym, refl, ◌∙◌, subst}
use lib.Ieee.{binary64}
use Rattle.numeric.proofs.Cases.{agree}
use Rattle.numeric.proofs.Words.{nan_stays}
use Rattle.exponential.specs.Exp.{exp_of, bands_of}
use Rattle.exponential.proofs.Special.{exp_bands}
use Rattle.exponential.proofs.exp.exp.Goals as goal

pub returns-then-is-nan : goal.returns-then-is-nan
returns-then-is-nan c = nan_stays exp_of (unfold exp_of in refl) c.args.x c.if-is-nan.ensures.value

pub returns-else-is-nan : goal.returns-else-is-nan
returns-else-is-nan c = c.banded.ensures ∙ agree binary64 bands_of exp_of exp_bands c.args.x (subst T (sym c.well-formed.0.1) tt) c.if-is-nan.ensures.not-nan
