-- sinh of a number is a number: below its switch expm1 is finite and not negative. Assumes nothing.
use Rattle.std.proofs.Common.{◌≡◌, true, false, cond, T, [], ◌∷◌, pos, negsuc, sym, refl, subst, lit<}
use lib.Ieee.{Float, fin, binary64, neg, add, sub, mul, div, le, of_bits, round}
use lib.Ieee.Scale.{finite}
use Rattle.std.specs.Float.{is_sign_negative}
use Rattle.numeric.proofs.Rounding.{le_trans_f}
use Rattle.numeric.proofs.Cases.{agree}
use Rattle.numeric.proofs.Intervals.{mk, In, finite_between}
use Rattle.numeric.proofs.Programs.{Code, at, lit, plus, minus, times, over, span, fits_in, bounded}
use Rattle.numeric.proofs.Order.{zero_f, number_above, lt-le}
use Rattle.numeric.proofs.Numbers.{add_number, mul_number, inf_le}
use Rattle.numeric.proofs.Tests.{by_cases}
use Rattle.numeric.proofs.Words.{mag, mag_sign, mag_fits, mag_number, not_below}
use Rattle.float.specs.Band.{below_bits}
use Rattle.float.specs.Constants.{one, two, half, minus_half, minus_infinity}
use Rattle.float.specs.Range.{Number}
use Rattle.exponential.specs.Expm1.{expm1_of}
use Rattle.hyperbolic.specs.Expo2.{expo2_of}
use Rattle.hyperbolic.specs.Sinh.{half_like, near_of, mid_of, bands_of, sinh_of}
use Rattle.hyperbolic.proofs.Special.{sinh_bands}
use Rattle.exponential_laws.proofs.Ladder.{Up, largest}
use Rattle.exponential_laws.proofs.Expm1.{ceiling, finite_below, one_f, nine_fourths, small_end, small_in}
use Rattle.hyperbolic_laws.specs.Laws.{SinhNumber}
use Rattle.hyperbolic_laws.proofs.Expo2.{expo2_above}

-- ---- a half with x's sign, times a number
halves : (half binary64 ≡ fin false 1 (negsuc 0)) × (minus_half binary64 ≡ fin true 1 (negsuc 0))
unfolding of_bits
halves = (refl, refl)

half_number : (x y : Float) → Number y → Number (mul binary64 (half_like x) y)
half_number x y n =
    by_cases (λ (h : Float). Number (mul binary64 h y)) (is_sign_negative x) (minus_half binary64) (half binary64)
    (λ _. subst (λ (h : Float). Number (mul binary64 h y)) (sym halves.1) (mul_number binary64 true 0 (negsuc 0) y n))
    (λ _. subst (λ (h : Float). Number (mul binary64 h y)) (sym halves.0) (mul_number binary64 false 0 (negsuc 0) y n))

units : (mul binary64 (two binary64) (half binary64) ≡ fin false 1 (pos 0)) × (mul binary64 (two binary64) (minus_half binary64) ≡ fin true 1 (pos 0))
unfolding of_bits mul round
units = (refl, refl)

unit_number : (x y : Float) → Number y → Number (mul binary64 (mul binary64 (two binary64) (half_like x)) y)
unit_number x y n =
    by_cases (λ (h : Float). Number (mul binary64 (mul binary64 (two binary64) h) y)) (is_sign_negative x) (minus_half binary64) (half binary64)
    (λ _. subst (λ (h : Float). Number (mul binary64 h y)) (sym units.1) (mul_number binary64 true 0 (pos 0) y n))
    (λ _. subst (λ (h : Float). Number (mul binary64 h y)) (sym units.0) (mul_number binary64 false 0 (pos 0) y n))

-- ---- below 1: t is at most 9/4
abbrev near_code : Code
near_code = minus (times (lit (two binary64)) (at 0)) (over (times (at 0) (at 0)) (plus (at 0) (lit (one binary64))))

near_ok : T (fits_in (span binary64 near_code (mk zero_f nine_fourths ∷ [])) (fin true 1 (pos 4)) (fin false 1 (pos 4)))
unfolding of_bits add sub mul div neg le
near_ok = tt

near_number : (t : Float) → In t (mk zero_f nine_fourths) → Number (near_of t)
near_number t (h, k) = number_above (fin true 1 (pos 4)) (near_of t) (bounded binary64 near_code zero_f nine_fourths (fin true 1 (pos 4)) (fin false 1 (pos 4)) t near_ok h k).0

-- ---- below 709.78: t is finite
abbrev part_code : Code
part_code = over (at 0) (plus (at 0) (lit (one binary64)))

part_ok : T (fits_in (span binary64 part_code (mk zero_f (largest binary64) ∷ [])) zero_f (largest binary64)) × T (finite (largest binary64))
unfolding of_bits add div le
part_ok = (tt, tt)

mid_number : (t : Float) → Up binary64 t → Number (mid_of t)
mid_number t (h, k) =
    let q = bounded binary64 part_code zero_f (largest binary64) zero_f (largest binary64) t part_ok.0 h k in
    let y = div binary64 t (add binary64 t (one binary64)) in
    add_number binary64 t y (number_above zero_f t h) (finite_between zero_f y (largest binary64) tt part_ok.1 q.0 q.1)

-- ---- all bands
one_small : T (le (of_bits binary64 0x3ff0000000000000) small_end)
unfolding of_bits le
one_small = tt

pub sinh_number : SinhNumber
sinh_number x (p, n) =
    let y = mag x in
    let t = expm1_of y in
    let i = mag_number x n in
    let f = mag_fits binary64 x p in
    let v4 = mul binary64 (mul binary64 (two binary64) (half_like x)) (expo2_of y) in
    let v3 = cond (below_bits binary64 x 0x40862e4200000000) (mul binary64 (half_like x) (mid_of t)) v4 in
    let v2 = cond (below_bits binary64 x 0x3ff0000000000000) (mul binary64 (half_like x) (near_of t)) v3 in
    subst Number (agree binary64 bands_of sinh_of sinh_bands x p n)
    (by_cases Number (below_bits binary64 x 0x3e50000000000000) x v2
    (λ _. n)
    (λ _. by_cases Number (below_bits binary64 x 0x3ff0000000000000) (mul binary64 (half_like x) (near_of t)) v3
    (λ w. half_number x (near_of t) (near_number t (small_in y f i (mag_sign x) (le_trans_f y (of_bits binary64 0x3ff0000000000000) small_end (lt-le y (of_bits binary64 0x3ff0000000000000) w) one_small))))
    (λ _. by_cases Number (below_bits binary64 x 0x40862e4200000000) (mul binary64 (half_like x) (mid_of t)) v4
    (λ w. half_number x (mid_of t) (mid_number t (finite_below y f i (mag_sign x) (lt-le y ceiling w))))
    (λ w. unit_number x (expo2_of y) (number_above one_f (expo2_of y) (expo2_above y (not_below binary64 x 0x40862e4200000000 n (lit< tt) w)))))))

-- a number is at least -infinity
pub from_infinity : (y : Float) → Number y → T (le (minus_infinity binary64) y)
from_infinity y n = let h = inf_le y n in unfold of_bits in h
