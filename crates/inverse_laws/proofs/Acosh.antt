-- Where acosh's values lie: band by band. Assumes nothing.
use Rattle.std.proofs.Common.{◌*◌, true, false, cond, T, [], ◌∷◌, pos, subst, lit<}
use lib.Ieee.{Float, nan, inf, fin, binary64, of_bits, round, neg, add, sub, mul, div, le, lt, eq, is_nan}
use lib.Ieee.Fits.{add-fits}
use lib.Ieee.Positive.{positive}
use lib.Ieee.Scale.{finite}
use Rattle.numeric.proofs.Intervals.{mk, In}
use Rattle.numeric.proofs.Programs.{Code, at, lit, plus, minus, times, over, span, fits_in, bounded, bounded_all}
use Rattle.numeric.proofs.Order.{zero_f, number_above, finite_number, lt-le, lt_not_le}
use Rattle.numeric.proofs.Tests.{by_cases}
use Rattle.numeric.proofs.Words.{mag, mag_plain, above_plain, not_below}
use Rattle.float.specs.Band.{below_bits}
use Rattle.float.specs.Constants.{one, two, plus_zero, not_a_number}
use Rattle.float.specs.Double.{◌⊕◌, ◌⊖◌, ◌⊗◌, ◌⊘◌}
use Rattle.root.specs.Sqrt.{sqrt_of}
use Rattle.logarithm.specs.Log1p.{log1p_of}
use Rattle.inverse.specs.Acosh.{near_of, mid_of, large_of, bands_of, acosh_of}
use Rattle.logarithm_laws.proofs.Whole.{whole}
use Rattle.inverse_laws.specs.Laws.{AcoshNumber}
use Rattle.inverse_laws.proofs.Roots.{root_in}
use Rattle.inverse_laws.proofs.Steps.{Number, unit, limit, two_end, mid_end, log1p_above, log_inside, large_number, between}

-- ---- below 2, over d = x - 1; then over d and the root
abbrev less_code : Code
less_code = minus (at 0) (lit (one binary64))

abbrev under_code : Code
under_code = plus (times (at 0) (at 0)) (times (lit (two binary64)) (at 0))

near_ok : T (fits_in (span binary64 less_code (mk (one binary64) two_end ∷ [])) zero_f unit)
    × T (fits_in (span binary64 under_code (mk zero_f unit ∷ [])) zero_f (fin false 4 (pos 0)))
    × T (fits_in (span binary64 (plus (at 0) (at 1)) (mk zero_f unit ∷ mk zero_f (whole binary64 2) ∷ [])) zero_f limit)
unfolding of_bits round add sub mul neg le
near_ok = (tt, tt, tt)

near_number : (x : Float) → In x (mk (one binary64) two_end) → Number (near_of (x ⊖ one binary64))
near_number x (h, k) =
    let d = x ⊖ one binary64 in
    let q = d ⊗ d ⊕ two binary64 ⊗ d in
    let i = bounded binary64 less_code (one binary64) two_end zero_f unit x near_ok.0 h k in
    let j = bounded binary64 under_code zero_f unit zero_f (fin false 4 (pos 0)) d near_ok.1 i.0 i.1 in
    let r = root_in binary64 q 2 j.0 j.1 in
    let z = d ⊕ sqrt_of binary64 q in
    finite_number (log1p_of z)
    (log1p_above z (add-fits binary64 d (sqrt_of binary64 q)) (bounded_all binary64 (plus (at 0) (at 1)) (d ∷ sqrt_of binary64 q ∷ []) (mk zero_f unit ∷ mk zero_f (whole binary64 2) ∷ []) zero_f limit near_ok.2 (i, (r, tt))))

-- ---- below 2^26, over x and the root
abbrev square_code : Code
square_code = minus (times (at 0) (at 0)) (lit (one binary64))

abbrev mid_code : Code
mid_code = minus (times (lit (two binary64)) (at 0)) (over (lit (one binary64)) (plus (at 0) (at 1)))

mid_ok : T (fits_in (span binary64 square_code (mk two_end mid_end ∷ [])) zero_f (fin false (0x8000000 * 0x8000000) (pos 0)))
    × T (fits_in (span binary64 mid_code (mk two_end mid_end ∷ mk zero_f (whole binary64 0x8000000) ∷ [])) unit limit)
unfolding of_bits round add sub mul div neg le
mid_ok = (tt, tt)

mid_number : (x : Float) → In x (mk two_end mid_end) → Number (mid_of x)
mid_number x (h, k) =
    let q = x ⊗ x ⊖ one binary64 in
    let j = bounded binary64 square_code two_end mid_end zero_f (fin false (0x8000000 * 0x8000000) (pos 0)) x mid_ok.0 h k in
    let r = root_in binary64 q 0x8000000 j.0 j.1 in
    let z = two binary64 ⊗ x ⊖ one binary64 ⊘ (x ⊕ sqrt_of binary64 q) in
    log_inside z
    (bounded_all binary64 mid_code (x ∷ sqrt_of binary64 q ∷ []) (mk two_end mid_end ∷ mk zero_f (whole binary64 0x8000000) ∷ []) unit limit mid_ok.1 ((h, k), (r, tt)))

-- ---- the bands
one_positive : T (positive (one binary64))
unfolding of_bits
one_positive = tt

zero_number : Number (plus_zero binary64)
unfolding of_bits is_nan
zero_number = tt

bands_number : (x : Float) → T (finite x) → T (le (one binary64) x) → Number (bands_of x)
bands_number x X h =
    let n = finite_number x X in
    let s = above_plain (one binary64) x one_positive h in
    let plain = λ (b : Float) (w : T (lt (mag x) b)). subst (λ (z : Float). T (le z b)) (mag_plain x s) (lt-le (mag x) b w) in
    let B = cond (below_bits binary64 x 0x4190000000000000) (mid_of x) (large_of x) in
    by_cases Number (below_bits binary64 x 0x4000000000000000) (near_of (x ⊖ one binary64)) B
    (λ a. near_number x (h, plain two_end a))
    (λ a. by_cases Number (below_bits binary64 x 0x4190000000000000) (mid_of x) (large_of x)
    (λ b. mid_number x (between x 0x4000000000000000 0x4190000000000000 s n (lit< tt) a b))
    (λ b. large_number x X (subst (λ (z : Float). T (le mid_end z)) (mag_plain x s) (not_below binary64 x 0x4190000000000000 n (lit< tt) b))))

pub acosh_number : AcoshNumber
acosh_number nan h = absurd (unfold is_nan in number_above (one binary64) nan h)
acosh_number (inf true) h = absurd (unfold le of_bits in h)
acosh_number (inf false) h = unfold acosh_of is_nan in tt
acosh_number (fin s m e) h =
    let x = fin s m e in
    unfold acosh_of in
    by_cases Number (lt x (one binary64)) (not_a_number binary64) (cond (eq x (one binary64)) (plus_zero binary64) (bands_of x))
    (λ w. absurd (lt_not_le x (one binary64) w h))
    (λ _. by_cases Number (eq x (one binary64)) (plus_zero binary64) (bands_of x) (λ _. zero_number) (λ _. bands_number x tt h))
