use Rattle.std.proofs.Common.{◌≡◌, true, false, not, sym, refl, ap, ◌∙◌, true≢false}
use lib.Ieee.{Float, nan, inf, fin, is_nan}
use Rattle.std.specs.Float.{is_sign_negative}
use Rattle.float.proofs.band.negative.Goals as goal

no_sign : (x : Float) → is_nan x ≡ true → false ≡ is_sign_negative x
unfolding is_nan is_sign_negative
no_sign nan h = refl
no_sign (inf s) h = absurd (true≢false (sym h))
no_sign (fin s m e) h = absurd (true≢false (sym h))

pub returns-else-not-is_nan : goal.returns-else-not-is_nan
returns-else-not-is_nan g c = ap not c.if-not-is_nan.false ∙ no_sign (g.F.Float.float c.args.x) (sym c.is_nan.ensures ∙ c.if-not-is_nan.false)
