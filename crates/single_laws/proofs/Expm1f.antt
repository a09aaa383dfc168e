-- The laws of expm1f: those of expm1, at the constants of binary32. Assumes nothing.
use mathlib.Core.Path.{◌≡◌, refl, sym, subst}
use lib.Dec.{T}
use lib.Ieee.{Float, binary32, neg, le, of_bits}
use Rattle.numeric.proofs.Order.{zero_f, number_above}
use Rattle.float.specs.Constants.{one, plus_zero, minus_one}
use Rattle.exponential.specs.Expm1.{single}
use Rattle.single.specs.Expm1f.{expm1f_of}
use Rattle.exponential_laws.proofs.Range.{above, rises}
use Rattle.single_laws.specs.Laws.{Expm1fAbove, Expm1fRises}
use Rattle.single_laws.proofs.Single.{sizes, computed}

pub expm1f_above : Expm1fAbove
unfolding expm1f_of
expm1f_above x (p, i) = let h = above single sizes 128 127 computed x p i in (number_above (minus_one binary32) (expm1f_of x) h, h)

zero_is : plus_zero binary32 ≡ zero_f
unfolding of_bits
zero_is = refl

pub expm1f_rises : Expm1fRises
unfolding expm1f_of
expm1f_rises x p h =
    let v = rises single sizes 128 127 computed x p (subst (λ (y : Float). T (le y x)) zero_is h) in
    (number_above zero_f (expm1f_of x) v, subst (λ (y : Float). T (le y (expm1f_of x))) (sym zero_is) v)

pub minus_one_is : neg (one binary32) ≡ minus_one binary32
unfolding neg of_bits
minus_one_is = refl
