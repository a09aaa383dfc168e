-- cosh of a number is at least 1, band by band. Assumes nothing.
use Rattle.std.proofs.Common.{◌≡◌, true, false, cond, not, T, [], ◌∷◌, pos, negsuc, sym, refl, subst, inl, inr, lit<}
use lib.Ieee.{Float, nan, inf, fin, binary64, add, mul, div, le, is_nan, fits, of_bits}
use lib.Ieee.Scale.{finite}
use Rattle.numeric.proofs.Rounding.{le_trans_f}
use Rattle.numeric.proofs.Operations.{add_mono, mul_mono_r, div_mono_l, div_anti_r}
use Rattle.numeric.proofs.Cases.{agree}
use Rattle.numeric.proofs.Intervals.{mk, In, finite_between, above_parts}
use Rattle.numeric.proofs.Programs.{Code, at, lit, plus, times, over, span, fits_in, bounded}
use Rattle.numeric.proofs.Order.{zero_f, total, number_above, lt-le, zero_over}
use Rattle.numeric.proofs.Tests.{by_cases}
use Rattle.numeric.proofs.Words.{mag, mag_sign, mag_fits, mag_number, not_below}
use Rattle.float.specs.Band.{below_bits}
use Rattle.float.specs.Constants.{one, two, half}
use Rattle.exponential.specs.Exp.{exp_of}
use Rattle.exponential.specs.Expm1.{expm1_of}
use Rattle.hyperbolic.specs.Expo2.{expo2_of}
use Rattle.hyperbolic.specs.Cosh.{near_of, mid_of, bands_of, cosh_of}
use Rattle.hyperbolic.proofs.Special.{cosh_bands}
use Rattle.exponential_laws.proofs.Expm1.{one_f, nine_fourths, small_end, small_in}
use Rattle.exponential_laws.proofs.Exp.{middle, near_two, exp_middle}
use Rattle.hyperbolic_laws.specs.Laws.{CoshAbove}
use Rattle.hyperbolic_laws.proofs.Expo2.{expo2_above}

abbrev Above : Float → Type 0
Above y = T (le one_f y)

-- ---- below ln 2: 1 + t² / (2 (1 + t)), with t from 0 to 9/4
abbrev near_code : Code
near_code = plus (lit (one binary64)) (over (times (at 0) (at 0)) (times (lit (two binary64)) (plus (lit (one binary64)) (at 0))))

near_ok : T (fits_in (span binary64 near_code (mk zero_f nine_fourths ∷ [])) one_f (fin false 1 (pos 4)))
unfolding of_bits add mul div le
near_ok = tt

near_above : (t : Float) → In t (mk zero_f nine_fourths) → Above (near_of t)
near_above t (h, k) = (bounded binary64 near_code zero_f nine_fourths one_f (fin false 1 (pos 4)) t near_ok h k).0

-- ---- from there on: (t + 1 / t) / 2, with t from 31/16 on
abbrev two_f : Float
two_f = fin false 1 (pos 1)

abbrev half_f : Float
half_f = fin false 1 (negsuc 0)

abbrev mid_code : Code
mid_code = times (lit (half binary64)) (plus (at 0) (over (lit (one binary64)) (at 0)))

mid_ok : T (fits_in (span binary64 mid_code (mk near_two two_f ∷ [])) one_f (fin false 1 (pos 4)))
unfolding of_bits add mul div le
mid_ok = tt

constants : T (finite (one binary64)) × T (finite (half binary64)) × (Rattle.numeric.proofs.Rounding.N (half binary64) ≡ 0) × (Rattle.numeric.proofs.Rounding.N (one binary64) ≡ 0) × T (le zero_f (one binary64)) × T (le (div binary64 (one binary64) two_f) half_f) × T (le two_f (add binary64 two_f zero_f)) × T (le one_f (mul binary64 (half binary64) two_f))
unfolding of_bits add mul div le
constants = (tt, tt, refl, refl, tt, tt, tt, tt)

-- half of what is at least 2
half_from : (y : Float) → T (le two_f y) → Above (mul binary64 (half binary64) y)
half_from nan h = absurd (unfold le in h)
half_from (inf true) h = absurd (unfold le in h)
half_from (inf false) h = unfold mul of_bits le in tt
half_from (fin s m e) h = le_trans_f one_f (mul binary64 (half binary64) two_f) (mul binary64 (half binary64) (fin s m e)) constants.7 (mul_mono_r binary64 (half binary64) two_f (fin s m e) constants.1 tt tt constants.2 h)

from_two : (t : Float) → T (finite t) → T (le two_f t) → Above (mid_of t)
from_two t F h =
    let o = one binary64 in
    let q = div binary64 o t in
    let g = above_parts two_f t tt tt F h in
    let a : T (le zero_f q) = le_trans_f zero_f (div binary64 zero_f t) q (zero_over binary64 t F g.0 g.1).0 (div_mono_l binary64 zero_f o t tt constants.0 F g.0 g.1 constants.4) in
    let b : T (le q half_f) = le_trans_f q (div binary64 o two_f) half_f (div_anti_r binary64 o two_f t constants.0 tt F refl (above_parts two_f two_f tt tt tt (unfold le in tt)).1 g.0 g.1 constants.3 h) constants.5 in
    let Q = finite_between zero_f q half_f tt tt a b in
    half_from (add binary64 t q) (le_trans_f two_f (add binary64 two_f zero_f) (add binary64 t q) constants.6 (add_mono binary64 two_f t zero_f q tt F tt Q h a))

mid_above : (t : Float) → T (le near_two t) → Above (mid_of t)
mid_above nan h = absurd (unfold le in h)
mid_above (inf true) h = absurd (unfold le in h)
mid_above (inf false) h = unfold div add mul of_bits le in tt
mid_above (fin s m e) h = elim (total (fin s m e) two_f tt tt) [
  | inl k ↦ (bounded binary64 mid_code near_two two_f one_f (fin false 1 (pos 4)) (fin s m e) mid_ok h k).0
  | inr k ↦ from_two (fin s m e) tt k
]

-- ---- all bands
middle_small : T (le middle small_end)
unfolding of_bits le
middle_small = tt

one_is : one binary64 ≡ one_f
unfolding of_bits
one_is = refl

one_above : Above (one binary64)
unfolding of_bits le
one_above = tt

pub cosh_from_one : (x : Float) → T (fits binary64 x) → T (not (is_nan x)) → Above (cosh_of x)
cosh_from_one x p n =
    let y = mag x in
    let i = mag_number x n in
    let f = mag_fits binary64 x p in
    let v4 = expo2_of y in
    let v3 = cond (below_bits binary64 x 0x40862e4200000000) (mid_of (exp_of y)) v4 in
    let v2 = cond (below_bits binary64 x 0x3fe62e4200000000) (near_of (expm1_of y)) v3 in
    subst Above (agree binary64 bands_of cosh_of cosh_bands x p n)
    (by_cases Above (below_bits binary64 x 0x3e50000000000000) (one binary64) v2
    (λ _. one_above)
    (λ _. by_cases Above (below_bits binary64 x 0x3fe62e4200000000) (near_of (expm1_of y)) v3
    (λ w. near_above (expm1_of y) (small_in y f i (mag_sign x) (le_trans_f y middle small_end (lt-le y middle w) middle_small)))
    (λ u. by_cases Above (below_bits binary64 x 0x40862e4200000000) (mid_of (exp_of y)) v4
    (λ _. mid_above (exp_of y) (exp_middle y f i (not_below binary64 x 0x3fe62e4200000000 n (lit< tt) u)))
    (λ w. expo2_above y (not_below binary64 x 0x40862e4200000000 n (lit< tt) w)))))

pub cosh_above : CoshAbove
cosh_above x (p, n) = let h = cosh_from_one x p n in (number_above one_f (cosh_of x) h, subst (λ (y : Float). T (le y (cosh_of x))) (sym one_is) h)
