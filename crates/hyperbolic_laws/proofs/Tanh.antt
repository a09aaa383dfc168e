-- tanh stays within -1 and 1: each band from what expm1 gives there. Assumes nothing.
use Rattle.std.proofs.Common.{◌≡◌, ℕ, ◌<◌, true, false, cond, not, T, [], ◌∷◌, negsuc, sym, refl, subst, true≢false, lit<}
use lib.Ieee.{Float, nan, inf, fin, binary64, neg, add, sub, mul, div, le, lt, is_nan, fits, of_bits}
use lib.Ieee.Fits.{mul-fits}
use lib.Ieee.Scale.{finite}
use lib.Ieee.Positive.{positive}
use Rattle.std.specs.Float.{is_sign_negative}
use Rattle.numeric.proofs.Rounding.{le_trans_f}
use Rattle.numeric.proofs.Cases.{agree}
use Rattle.numeric.proofs.Intervals.{mk, In, above_parts}
use Rattle.numeric.proofs.Programs.{Code, at, lit, turned, plus, minus, times, over, span, fits_in, bounded, neg_in}
use Rattle.numeric.proofs.Order.{zero_f, number_above, lt-le, zero_over}
use Rattle.numeric.proofs.Tests.{by_cases}
use Rattle.numeric.proofs.Words.{mag, mag_plain, mag_sign, mag_number, mag_zero, mag_between, above_plain, below_turned, not_below}
use Rattle.float.specs.Band.{below_bits}
use Rattle.float.specs.Constants.{one, two, minus_one, minus_two, plus_zero}
use Rattle.exponential.specs.Expm1.{expm1_of}
use Rattle.hyperbolic.specs.Tanh.{small_of, mid_of, large_of, size_of, bands_of, tanh_of}
use Rattle.hyperbolic.proofs.Special.{tanh_bands}
use Rattle.exponential_laws.proofs.Kernel.{half_f, low_f, high_f}
use Rattle.exponential_laws.proofs.Ladder.{largest, minus_one_f}
use Rattle.exponential_laws.proofs.Expm1.{ceiling, finite_below, one_f, nine_fourths, small_end, small_cases, gentle_below}
use Rattle.hyperbolic_laws.specs.Laws.{TanhBetween}

abbrev UnitIn : Float → Type 0
UnitIn y = In y (mk minus_one_f one_f)

-- ---- from 20 on: 1 - 0 / y
zero_is : plus_zero binary64 ≡ zero_f
unfolding of_bits
zero_is = refl

less_ok : T (fits_in (span binary64 (minus (lit (one binary64)) (at 0)) (mk zero_f zero_f ∷ [])) minus_one_f one_f)
unfolding of_bits add sub neg le
less_ok = tt

at_infinity : UnitIn (sub binary64 (one binary64) (div binary64 zero_f (inf false)))
unfolding of_bits add sub div neg le
at_infinity = (tt, tt)

abbrev twenty : Float
twenty = of_bits binary64 0x4034000100000000

twenty_is : T (positive twenty) × T (finite twenty)
unfolding of_bits
twenty_is = (tt, tt)

top_band : (y : Float) → T (le twenty y) → UnitIn (sub binary64 (one binary64) (div binary64 (plus_zero binary64) y))
top_band y h = subst (λ (z : Float). UnitIn (sub binary64 (one binary64) (div binary64 z y))) (sym zero_is) (go y h)
  where
    go : (y : Float) → T (le twenty y) → UnitIn (sub binary64 (one binary64) (div binary64 zero_f y))
    go nan h = absurd (unfold is_nan in number_above twenty nan h)
    go (inf true) h = absurd (true≢false (unfold is_sign_negative in above_plain twenty (inf true) twenty_is.0 h))
    go (inf false) h = at_infinity
    go (fin t m e) h =
        let g = above_parts twenty (fin t m e) twenty_is.0 twenty_is.1 tt h in
        let z = zero_over binary64 (fin t m e) tt g.0 g.1 in
        bounded binary64 (minus (lit (one binary64)) (at 0)) zero_f zero_f minus_one_f one_f (div binary64 zero_f (fin t m e)) less_ok z.0 z.1

-- ---- up to 20: 1 - 2 / (t + 2), with t from 0 to the largest value
abbrev large_code : Code
large_code = minus (lit (one binary64)) (over (lit (two binary64)) (plus (at 0) (lit (two binary64))))

large_ok : T (fits_in (span binary64 large_code (mk zero_f (largest binary64) ∷ [])) minus_one_f one_f)
unfolding of_bits add sub div neg le
large_ok = tt

abbrev mid_end : Float
mid_end = of_bits binary64 0x3fe193eb00000000

abbrev twice_code : Code
twice_code = times (lit (two binary64)) (at 0)

large_twice_ok : T (fits_in (span binary64 twice_code (mk mid_end twenty ∷ [])) one_f ceiling)
unfolding of_bits mul le
large_twice_ok = tt

large_band : (y : Float) → In y (mk mid_end twenty) → UnitIn (large_of (expm1_of (mul binary64 (two binary64) y)))
large_band y (h, k) =
    let x = mul binary64 (two binary64) y in
    let d = bounded binary64 twice_code mid_end twenty one_f ceiling y large_twice_ok h k in
    let u = finite_below x (mul-fits binary64 (two binary64) y) (number_above one_f x d.0) (above_plain one_f x tt d.0) d.1 in
    bounded binary64 large_code zero_f (largest binary64) minus_one_f one_f (expm1_of x) large_ok u.0 u.1

-- ---- up to 0.55: t / (t + 2), with t from 0 to 1/2, from 1/16 to 31/16 or from 1 to 9/4
abbrev mid_code : Code
mid_code = over (at 0) (plus (at 0) (lit (two binary64)))

mid_ok : T (fits_in (span binary64 mid_code (mk zero_f half_f ∷ [])) minus_one_f one_f) × T (fits_in (span binary64 mid_code (mk low_f high_f ∷ [])) minus_one_f one_f) × T (fits_in (span binary64 mid_code (mk one_f nine_fourths ∷ [])) minus_one_f one_f)
unfolding of_bits add div le
mid_ok = (tt, tt, tt)

abbrev low_end : Float
low_end = of_bits binary64 0x3fd058af00000000

mid_twice_ok : T (fits_in (span binary64 twice_code (mk low_end mid_end ∷ [])) half_f small_end)
unfolding of_bits mul le
mid_twice_ok = tt

mid_band : (y : Float) → In y (mk low_end mid_end) → UnitIn (mid_of (expm1_of (mul binary64 (two binary64) y)))
mid_band y (h, k) =
    let x = mul binary64 (two binary64) y in
    let d = bounded binary64 twice_code low_end mid_end half_f small_end y mid_twice_ok h k in
    small_cases (λ (z : Float). UnitIn (mid_of z)) x (mul-fits binary64 (two binary64) y) (number_above half_f x d.0) (above_plain half_f x tt d.0) d.1
    (λ z i. bounded binary64 mid_code zero_f half_f minus_one_f one_f z mid_ok.0 i.0 i.1)
    (λ z i. bounded binary64 mid_code low_f high_f minus_one_f one_f z mid_ok.1 i.0 i.1)
    (λ z i. bounded binary64 mid_code one_f nine_fourths minus_one_f one_f z mid_ok.2 i.0 i.1)

-- ---- below 0.26: -t / (t + 2), with t from -3/4 to 1/2
abbrev small_code : Code
small_code = over (turned (at 0)) (plus (at 0) (lit (two binary64)))

small_ok : T (fits_in (span binary64 small_code (mk (fin true 3 (negsuc 1)) half_f ∷ [])) minus_one_f one_f)
unfolding of_bits add div neg le
small_ok = tt

abbrev least : Float
least = of_bits binary64 0x0010000000000000

abbrev back_code : Code
back_code = times (lit (minus_two binary64)) (at 0)

abbrev five_eighths : Float
five_eighths = fin false 5 (negsuc 2)

small_twice_ok : T (fits_in (span binary64 back_code (mk least low_end ∷ [])) (neg five_eighths) (neg least)) × T (positive least) × T (le (neg least) five_eighths)
unfolding of_bits mul neg le
small_twice_ok = (tt, tt, tt)

small_band : (y : Float) → In y (mk least low_end) → UnitIn (small_of (expm1_of (mul binary64 (minus_two binary64) y)))
small_band y (h, k) =
    let x = mul binary64 (minus_two binary64) y in
    let d = bounded binary64 back_code least low_end (neg five_eighths) (neg least) y small_twice_ok.0 h k in
    let g = gentle_below x (mul-fits binary64 (minus_two binary64) y) (number_above (neg five_eighths) x d.0) (below_turned least x small_twice_ok.1 d.1) (mag_between x five_eighths d.0 (le_trans_f x (neg least) five_eighths d.1 small_twice_ok.2)) in
    bounded binary64 small_code (fin true 3 (negsuc 1)) half_f minus_one_f one_f (expm1_of x) small_ok g.0 g.1

-- ---- all bands
tiny_ends : T (le minus_one_f zero_f) × T (le least one_f)
unfolding of_bits le
tiny_ends = (tt, tt)

size_in : (y : Float) → T (not (is_nan y)) → is_sign_negative y ≡ false → UnitIn (size_of y)
size_in y i s =
    let up = λ (b : ℕ) (w : T (lt (mag y) (of_bits binary64 b))). subst (λ (z : Float). T (le z (of_bits binary64 b))) (mag_plain y s) (lt-le (mag y) (of_bits binary64 b) w) in
    let from = λ (b : ℕ) (r : b < 0x7ff0000000000000) (w : T (not (lt (mag y) (of_bits binary64 b)))). subst (λ (z : Float). T (le (of_bits binary64 b) z)) (mag_plain y s) (not_below binary64 y b i r w) in
    let t = expm1_of (mul binary64 (two binary64) y) in
    let n = expm1_of (mul binary64 (minus_two binary64) y) in
    let v5 = sub binary64 (one binary64) (div binary64 (plus_zero binary64) y) in
    let v4 = cond (below_bits binary64 y 0x4034000100000000) (large_of t) v5 in
    let v3 = cond (below_bits binary64 y 0x3fe193eb00000000) (mid_of t) v4 in
    let v2 = cond (below_bits binary64 y 0x3fd058af00000000) (small_of n) v3 in
    by_cases UnitIn (below_bits binary64 y 0x0010000000000000) y v2
    (λ w. (le_trans_f minus_one_f zero_f y tiny_ends.0 (subst (λ (z : Float). T (le zero_f z)) (mag_plain y s) (mag_zero y i)), le_trans_f y least one_f (up 0x0010000000000000 w) tiny_ends.1))
    (λ w1. by_cases UnitIn (below_bits binary64 y 0x3fd058af00000000) (small_of n) v3
    (λ w. small_band y (from 0x0010000000000000 (lit< tt) w1, up 0x3fd058af00000000 w))
    (λ w2. by_cases UnitIn (below_bits binary64 y 0x3fe193eb00000000) (mid_of t) v4
    (λ w. mid_band y (from 0x3fd058af00000000 (lit< tt) w2, up 0x3fe193eb00000000 w))
    (λ w3. by_cases UnitIn (below_bits binary64 y 0x4034000100000000) (large_of t) v5
    (λ w. large_band y (from 0x3fe193eb00000000 (lit< tt) w3, up 0x4034000100000000 w))
    (λ w. top_band y (from 0x4034000100000000 (lit< tt) w)))))

-- ---- and the sign
ends_are : (minus_one binary64 ≡ minus_one_f) × (one binary64 ≡ one_f)
unfolding of_bits
ends_are = (refl, refl)

pub tanh_in : (x : Float) → T (fits binary64 x) → T (not (is_nan x)) → UnitIn (tanh_of x)
tanh_in x p n =
    let y = size_of (mag x) in
    let h = size_in (mag x) (mag_number x n) (mag_sign x) in
    subst UnitIn (agree binary64 bands_of tanh_of tanh_bands x p n)
    (by_cases UnitIn (is_sign_negative x) (neg y) y (λ _. (unfold neg in neg_in (mk minus_one_f one_f) y h)) (λ _. h))

pub tanh_between : TanhBetween
tanh_between x (p, n) =
    let h = tanh_in x p n in
    (number_above minus_one_f (tanh_of x) h.0, subst (λ (y : Float). T (le y (tanh_of x))) (sym ends_are.0) h.0, subst (λ (y : Float). T (le (tanh_of x) y)) (sym ends_are.1) h.1)

-- and its size is at most 1
pub tanh_size : (x : Float) → T (fits binary64 x) → T (not (is_nan x)) → T (le (mag (tanh_of x)) (one binary64))
tanh_size x p n = let h = tanh_in x p n in subst (λ (y : Float). T (le (mag (tanh_of x)) y)) (sym ends_are.1) (mag_between (tanh_of x) one_f (unfold neg in h.0) h.1)
