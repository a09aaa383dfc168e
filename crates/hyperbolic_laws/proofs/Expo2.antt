-- exp(y) / 2 of a y from 709.78 on is at least 1: no step of it meets zero times an infinity. Assumes nothing.
use Rattle.std.proofs.Common.{◌≡◌, false, T, pos, negsuc, sym, refl, subst}
use lib.Ieee.{Float, fin, binary64, neg, add, sub, mul, le, of_bits}
use lib.Ieee.Fits.{sub-fits}
use lib.Ieee.Scale.{finite}
use Rattle.numeric.proofs.Rounding.{le_trans_f}
use Rattle.numeric.proofs.Order.{number_above, add_from}
use Rattle.numeric.proofs.Numbers.{mul_from}
use Rattle.exponential.specs.Exp.{exp_of}
use Rattle.hyperbolic.specs.Expo2.{kln2, scale, expo2_of}
use Rattle.exponential_laws.proofs.Expm1.{ceiling, one_f}
use Rattle.exponential_laws.proofs.Exp.{far_down, least, exp_positive}

scale_is : scale ≡ fin false 1 (pos 1021)
unfolding of_bits
scale_is = refl

-- 1/4, and twice scaled
abbrev quarter : Float
quarter = fin false 1 (negsuc 1)

ends : T (le far_down (add binary64 ceiling (neg kln2))) × T (finite ceiling) × T (finite (neg kln2)) × T (le quarter (mul binary64 least (fin false 1 (pos 1021)))) × T (le one_f (mul binary64 quarter (fin false 1 (pos 1021))))
unfolding of_bits add mul neg le
ends = (tt, tt, tt, tt, tt)

shifted : (y : Float) → T (le ceiling y) → T (le far_down (sub binary64 y kln2))
unfolding sub
shifted y h = le_trans_f far_down (add binary64 ceiling (neg kln2)) (add binary64 y (neg kln2)) ends.0 (add_from binary64 ceiling y (neg kln2) ends.1 ends.2 h)

pub expo2_above : (y : Float) → T (le ceiling y) → T (le one_f (expo2_of y))
expo2_above y h =
    let x = sub binary64 y kln2 in
    let e = exp_of x in
    let b = fin false 1 (pos 1021) in
    let l = shifted y h in
    let g = exp_positive x (sub-fits binary64 y kln2) (number_above far_down x l) l in
    let u : T (le quarter (mul binary64 e b)) = le_trans_f quarter (mul binary64 least b) (mul binary64 e b) ends.3 (mul_from binary64 least e 0 (pos 1021) tt g) in
    let v : T (le one_f (mul binary64 (mul binary64 e b) b)) = le_trans_f one_f (mul binary64 quarter b) (mul binary64 (mul binary64 e b) b) ends.4 (mul_from binary64 quarter (mul binary64 e b) 0 (pos 1021) tt u) in
    subst (λ (s : Float). T (le one_f (mul binary64 (mul binary64 e s) s))) (sym scale_is) v
