-- log of an f64: special values, then the method, each step rounded once.
use Rattle.std.specs.Prelude.{ℕ, zero, suc, true, false, cond, ℤ, pos, negsuc, ◌+ℤ◌, from_bits, to_bits, Float}
use Rattle.std.specs.Float.Ieee.{sub, mul, eq}
use Rattle.std.specs.Float.{is_sign_negative, nan, inf, fin, binary64}
use Rattle.float.specs.Band.{below_bits}
use Rattle.float.specs.Constants.{one, plus_zero, infinity, minus_infinity, not_a_number}
use Rattle.logarithm.specs.Kernel.{double, exponent_of, significand_of, slope_of, join_of, high_part, low_part}

-- ---- kernel and reconstruction
abbrev pub sum_of : ℤ → Float → Float
sum_of k f = join_of double f (slope_of double f) (low_part double k) (high_part double k)

-- from a pattern b, and what the exponent was moved by before
abbrev pub cut_of : ℤ → ℕ → Float
cut_of k b = sum_of (k +ℤ exponent_of double b) (sub binary64 (significand_of double b) (one binary64))

-- 2^54
abbrev pub raised : Float → Float
raised x = mul binary64 x (from_bits binary64 0x4350000000000000)

-- ---- bands of a finite x above zero: 1; the subnormal values, first multiplied by 2^54; the rest
abbrev pub bands_of : Float → Float
bands_of x =
    cond (eq x (one binary64)) (plus_zero binary64)
    (cond (below_bits binary64 x 0x0010000000000000) (cut_of (negsuc 53) (to_bits binary64 (raised x)))
    (cut_of (pos 0) (to_bits binary64 x)))

-- zeros, values below zero and +infinity told from these, by tests on an x that is no NaN
abbrev pub tests_of : Float → Float
tests_of x = cond (eq x (plus_zero binary64)) (minus_infinity binary64) (cond (is_sign_negative x) (not_a_number binary64) (cond (eq x (infinity binary64)) x (bands_of x)))

-- C11 F.10.3.7: a NaN stays; a zero gives -infinity; below zero NaN; +infinity stays; 1 gives +0
unfoldable pub log_of : Float → Float
log_of nan = nan
log_of (inf true) = nan
log_of (inf false) = inf false
log_of (fin s zero e) = minus_infinity binary64
log_of (fin true (suc m) e) = nan
log_of (fin false (suc m) e) = bands_of (fin false (suc m) e)
