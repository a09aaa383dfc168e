use Rattle.std.proofs.Common.{T, sym, refl, ◌∙◌, subst}
use lib.Ieee.{binary32}
use Rattle.numeric.proofs.Cases.{tested}
use Rattle.exponential.specs.Expm1.{bands_of, single}
use Rattle.single.specs.Expm1f.{expm1f_of}
use Rattle.single.proofs.Special.{expm1f_bands}
use Rattle.single.proofs.expm1f.expm1f.Goals as goal

pub returns : goal.returns
returns c = c.in_bands.ensures ∙ tested binary32 (bands_of single) expm1f_of expm1f_bands (unfold expm1f_of in refl) c.args.x (subst T (sym c.well_formed.0.1) tt)
