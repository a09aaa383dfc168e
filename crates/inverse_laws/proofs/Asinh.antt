-- Where asinh's values lie: band by band. Assumes nothing.
use Rattle.std.proofs.Common.{◌≡◌, ℕ, zero, suc, ◌*◌, false, cond, T, [], ◌∷◌, pos, subst, lit<}
use lib.Ieee.{Float, nan, inf, fin, binary64, of_bits, round, add, mul, div, le, is_nan}
use lib.Ieee.Fits.{add-fits}
use lib.Ieee.Scale.{finite}
use Rattle.std.specs.Float.{is_sign_negative}
use Rattle.numeric.proofs.Intervals.{mk, In}
use Rattle.numeric.proofs.Programs.{Code, at, lit, plus, times, over, span, fits_in, bounded, bounded_all}
use Rattle.numeric.proofs.Order.{zero_f, finite_number}
use Rattle.numeric.proofs.Tests.{by_cases}
use Rattle.numeric.proofs.Words.{mag, mag_plain, mag_sign, mag_finite, not_below}
use Rattle.float.specs.Band.{below_bits}
use Rattle.float.specs.Constants.{one, two}
use Rattle.float.specs.Double.{◌⊕◌, ◌⊗◌, ◌⊘◌}
use Rattle.logarithm.specs.Log1p.{log1p_of}
use Rattle.inverse.specs.Asinh.{root_of, small_of, mid_of, large_of, size_of, asinh_of}
use Rattle.logarithm_laws.proofs.Whole.{whole}
use Rattle.inverse_laws.specs.Laws.{AsinhNumber}
use Rattle.inverse_laws.proofs.Roots.{root_in}
use Rattle.inverse_laws.proofs.Steps.{Number, unit, limit, two_end, mid_end, by_size_number, log1p_above, log_inside, large_number, between}

-- ---- the root, y from a to b, and at most c
abbrev square_code : Code
square_code = plus (times (at 0) (at 0)) (lit (one binary64))

abbrev Fits : ℕ → Float → Float → Type 0
Fits c a b = T (fits_in (span binary64 square_code (mk a b ∷ [])) zero_f (fin false (c * c) (pos 0)))

root_of_in : (c : ℕ) (a b y : Float) → Fits c a b → In y (mk a b) → In (root_of y) (mk zero_f (whole binary64 c))
root_of_in c a b y ok (h, k) =
    let i = bounded binary64 square_code a b zero_f (fin false (c * c) (pos 0)) y ok h k in
    root_in binary64 (y ⊗ y ⊕ one binary64) c i.0 i.1

-- ---- below 2, over y and the root
abbrev tiny_end : Float
tiny_end = of_bits binary64 0x3e50000000000000

abbrev small_code : Code
small_code = plus (at 0) (over (times (at 0) (at 0)) (plus (at 1) (lit (one binary64))))

small_ok : Fits 3 tiny_end two_end × T (fits_in (span binary64 small_code (mk tiny_end two_end ∷ mk zero_f (whole binary64 3) ∷ [])) zero_f limit)
unfolding of_bits round add mul div le
small_ok = (tt, tt)

small_number : (y : Float) → In y (mk tiny_end two_end) → Number (small_of y)
small_number y i =
    let r = root_of_in 3 tiny_end two_end y small_ok.0 i in
    let z = y ⊕ y ⊗ y ⊘ (root_of y ⊕ one binary64) in
    finite_number (log1p_of z)
    (log1p_above z (add-fits binary64 y (y ⊗ y ⊘ (root_of y ⊕ one binary64)))
    (bounded_all binary64 small_code (y ∷ root_of y ∷ []) (mk tiny_end two_end ∷ mk zero_f (whole binary64 3) ∷ []) zero_f limit small_ok.1 (i, (r, tt))))

-- ---- below 2^26
abbrev mid_code : Code
mid_code = plus (times (lit (two binary64)) (at 0)) (over (lit (one binary64)) (plus (at 1) (at 0)))

mid_ok : Fits 0x8000000 two_end mid_end × T (fits_in (span binary64 mid_code (mk two_end mid_end ∷ mk zero_f (whole binary64 0x8000000) ∷ [])) unit limit)
unfolding of_bits round add mul div le
mid_ok = (tt, tt)

mid_number : (y : Float) → In y (mk two_end mid_end) → Number (mid_of y)
mid_number y i =
    let r = root_of_in 0x8000000 two_end mid_end y mid_ok.0 i in
    let z = two binary64 ⊗ y ⊕ one binary64 ⊘ (root_of y ⊕ y) in
    log_inside z
    (bounded_all binary64 mid_code (y ∷ root_of y ∷ []) (mk two_end mid_end ∷ mk zero_f (whole binary64 0x8000000) ∷ []) unit limit mid_ok.1 (i, (r, tt)))

-- ---- the bands
size_number : (y : Float) → T (finite y) → is_sign_negative y ≡ false → Number (size_of y)
size_number y Y s =
    let n = finite_number y Y in
    let C = cond (below_bits binary64 y 0x4190000000000000) (mid_of y) (large_of y) in
    let B = cond (below_bits binary64 y 0x4000000000000000) (small_of y) C in
    by_cases Number (below_bits binary64 y 0x3e50000000000000) y B
    (λ _. n)
    (λ a. by_cases Number (below_bits binary64 y 0x4000000000000000) (small_of y) C
    (λ b. small_number y (between y 0x3e50000000000000 0x4000000000000000 s n (lit< tt) a b))
    (λ b. by_cases Number (below_bits binary64 y 0x4190000000000000) (mid_of y) (large_of y)
    (λ c. mid_number y (between y 0x4000000000000000 0x4190000000000000 s n (lit< tt) b c))
    (λ c. large_number y Y (subst (λ (z : Float). T (le mid_end z)) (mag_plain y s) (not_below binary64 y 0x4190000000000000 n (lit< tt) c)))))

pub asinh_number : AsinhNumber
asinh_number nan h = absurd (unfold is_nan in h)
asinh_number (inf s) h = unfold asinh_of is_nan in tt
asinh_number (fin s zero e) h = unfold asinh_of is_nan in tt
asinh_number (fin s (suc m) e) h = unfold asinh_of in by_size_number size_of (fin s (suc m) e) (size_number (mag (fin s (suc m) e)) (mag_finite (fin s (suc m) e) tt) (mag_sign (fin s (suc m) e)))
