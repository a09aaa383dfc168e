-- Where atanh's values lie: band by band. Assumes nothing.
use Rattle.std.proofs.Common.{◌≡◌, zero, suc, true, false, cond, not, T, [], ◌∷◌, sym, subst, inl, inr, lit<, T_not}
use lib.Ieee.{Float, nan, inf, fin, binary64, fits, of_bits, neg, add, sub, mul, div, le, lt, eq, is_nan}
use lib.Ieee.Fits.{add-fits, mul-fits}
use lib.Ieee.Scale.{finite}
use Rattle.std.specs.Float.{is_sign_negative}
use Rattle.numeric.proofs.Rounding.{or_split}
use Rattle.numeric.proofs.Intervals.{mk, In}
use Rattle.numeric.proofs.Programs.{Code, at, lit, plus, minus, times, over, span, fits_in, bounded}
use Rattle.numeric.proofs.Order.{zero_f, number_above, finite_number, lt_not_le}
use Rattle.numeric.proofs.Tests.{by_cases}
use Rattle.numeric.proofs.Words.{mag, mag_plain, mag_sign, mag_fits, mag_finite, mag_between, side_plain, not_below}
use Rattle.float.specs.Band.{below_bits}
use Rattle.float.specs.Constants.{one, two, half, minus_one, infinity, not_a_number}
use Rattle.float.specs.Double.{◌⊕◌, ◌⊖◌, ◌⊗◌, ◌⊘◌}
use Rattle.logarithm.specs.Log1p.{log1p_of}
use Rattle.inverse.specs.Atanh.{small_of, large_of, size_of, bands_of, atanh_of}
use Rattle.logarithm_laws.proofs.Log1p.{below_one, under_one, minus_one_is}
use Rattle.inverse_laws.specs.Laws.{AtanhNumber}
use Rattle.inverse_laws.proofs.Steps.{Number, limit, by_size_number, product_number, log1p_above, between}

half_parts : T (finite (half binary64)) × T (le zero_f (half binary64))
unfolding of_bits le
half_parts = (tt, tt)

-- half of a logarithm
halved : (z : Float) → T (fits binary64 z) → In z (mk zero_f limit) → Number (half binary64 ⊗ log1p_of z)
halved z fit i = product_number (half binary64) (log1p_of z) half_parts.0 (log1p_above z fit i) half_parts.1

-- ---- below 1/2
abbrev small_code : Code
small_code = plus (times (lit (two binary64)) (at 0)) (over (times (times (lit (two binary64)) (at 0)) (at 0)) (minus (lit (one binary64)) (at 0)))

small_ok : T (fits_in (span binary64 small_code (mk (of_bits binary64 0x3df0000000000000) (of_bits binary64 0x3fe0000000000000) ∷ [])) zero_f limit)
unfolding of_bits add sub mul div neg le
small_ok = tt

small_number : (y : Float) → In y (mk (of_bits binary64 0x3df0000000000000) (of_bits binary64 0x3fe0000000000000)) → Number (small_of y)
small_number y (h, k) =
    halved (two binary64 ⊗ y ⊕ two binary64 ⊗ y ⊗ y ⊘ (one binary64 ⊖ y)) (add-fits binary64 (two binary64 ⊗ y) (two binary64 ⊗ y ⊗ y ⊘ (one binary64 ⊖ y)))
    (bounded binary64 small_code (of_bits binary64 0x3df0000000000000) (of_bits binary64 0x3fe0000000000000) zero_f limit y small_ok h k)

-- ---- from 1/2 to the value next to 1
abbrev large_code : Code
large_code = times (lit (two binary64)) (over (at 0) (minus (lit (one binary64)) (at 0)))

large_ok : T (fits_in (span binary64 large_code (mk (of_bits binary64 0x3fe0000000000000) (below_one binary64) ∷ [])) zero_f limit)
unfolding of_bits add sub mul div neg le
large_ok = tt

large_number : (y : Float) → In y (mk (of_bits binary64 0x3fe0000000000000) (below_one binary64)) → Number (large_of y)
large_number y (h, k) =
    halved (two binary64 ⊗ (y ⊘ (one binary64 ⊖ y))) (mul-fits binary64 (two binary64) (y ⊘ (one binary64 ⊖ y)))
    (bounded binary64 large_code (of_bits binary64 0x3fe0000000000000) (below_one binary64) zero_f limit y large_ok h k)

-- ---- the bands
at_one : Number (infinity binary64)
unfolding of_bits is_nan
at_one = tt

not_one : (y : Float) → T (le y (one binary64)) → T (not (eq y (one binary64))) → T (lt y (one binary64))
unfolding le
not_one y h k = elim (or_split (lt y (one binary64)) (eq y (one binary64)) h) [ inl l ↦ l | inr e ↦ absurd (T_not (eq y (one binary64)) k e) ]

size_number : (y : Float) → T (fits binary64 y) → T (finite y) → is_sign_negative y ≡ false → T (le y (one binary64)) → Number (size_of y)
size_number y fit Y s h =
    let n = finite_number y Y in
    let D = cond (below_bits binary64 y 0x3fe0000000000000) (small_of y) (large_of y) in
    let C = cond (below_bits binary64 y 0x3df0000000000000) y D in
    let B = cond (eq y (one binary64)) (infinity binary64) C in
    by_cases Number (lt (one binary64) y) (not_a_number binary64) B
    (λ w. absurd (lt_not_le (one binary64) y w h))
    (λ _. by_cases Number (eq y (one binary64)) (infinity binary64) C
    (λ _. at_one)
    (λ e. by_cases Number (below_bits binary64 y 0x3df0000000000000) y D
    (λ _. n)
    (λ a. by_cases Number (below_bits binary64 y 0x3fe0000000000000) (small_of y) (large_of y)
    (λ b. small_number y (between y 0x3df0000000000000 0x3fe0000000000000 s n (lit< tt) a b))
    (λ b. large_number y (side_plain y (of_bits binary64 0x3fe0000000000000) (below_one binary64) s (not_below binary64 y 0x3fe0000000000000 n (lit< tt) b)
    (under_one binary64 y fit n (subst (λ (z : Float). T (lt z (one binary64))) (sym (mag_plain y s)) (not_one y h e))))))))

bands_number : (x : Float) → T (fits binary64 x) → T (finite x) → T (le (minus_one binary64) x) → T (le x (one binary64)) → Number (bands_of x)
bands_number x fit X h k =
    by_size_number size_of x
    (size_number (mag x) (mag_fits binary64 x fit) (mag_finite x X) (mag_sign x) (mag_between x (one binary64) (subst (λ (z : Float). T (le z x)) (sym (minus_one_is binary64)) h) k))

pub atanh_number : AtanhNumber
atanh_number nan fit h k = absurd (unfold is_nan in number_above (minus_one binary64) nan h)
atanh_number (inf true) fit h k = absurd (unfold le of_bits in h)
atanh_number (inf false) fit h k = absurd (unfold le of_bits in k)
atanh_number (fin s zero e) fit h k = unfold atanh_of is_nan in tt
atanh_number (fin s (suc m) e) fit h k = unfold atanh_of in bands_number (fin s (suc m) e) fit tt h k
