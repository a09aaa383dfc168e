use Rattle.std.proofs.Common.{T, sym, refl, ◌∙◌, subst}
use lib.Ieee.{binary64}
use Rattle.numeric.proofs.Cases.{tested}
use Rattle.exponential.specs.Expm1.{expm1_of, bands_of, double}
use Rattle.exponential.proofs.Special.{expm1_bands}
use Rattle.exponential.proofs.expm1.expm1.Goals as goal

pub returns : goal.returns
returns c = c.in_bands.ensures ∙ tested binary64 (bands_of double) expm1_of expm1_bands (unfold expm1_of in refl) c.args.x (subst T (sym c.well_formed.0.1) tt)
