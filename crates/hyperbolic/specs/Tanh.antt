-- tanh of an f64: special values, then the method, each step rounded once.
use Rattle.std.specs.Prelude.{zero, suc, true, false, cond, Float}
use Rattle.std.specs.Float.Ieee.{neg}
use Rattle.std.specs.Float.{is_sign_negative, float_with_sign, nan, inf, fin, binary64}
use Rattle.float.specs.Band.{below_bits}
use Rattle.float.specs.Constants.{one, two, minus_one, minus_two, plus_zero}
use Rattle.float.specs.Double.{◌⊕◌, ◌⊖◌, ◌⊗◌, ◌⊘◌}
use Rattle.exponential.specs.Expm1.{expm1_of}

-- from t = expm1(-2 y): -t / (t + 2)
abbrev pub small_of : Float → Float
small_of t = neg t ⊘ (t ⊕ two binary64)

-- from t = expm1(2 y): t / (t + 2)
abbrev pub mid_of : Float → Float
mid_of t = t ⊘ (t ⊕ two binary64)

-- and 1 - 2 / (t + 2)
abbrev pub large_of : Float → Float
large_of t = one binary64 ⊖ two binary64 ⊘ (t ⊕ two binary64)

-- ---- bands of a size y; the high words 0x00100000 (2^-1022), 0x3fd058ae, 0x3fe193ea and 0x40340000, the last of their bands but for the first
abbrev pub size_of : Float → Float
size_of y =
    cond (below_bits binary64 y 0x0010000000000000) y
    (cond (below_bits binary64 y 0x3fd058af00000000) (small_of (expm1_of (minus_two binary64 ⊗ y)))
    (cond (below_bits binary64 y 0x3fe193eb00000000) (mid_of (expm1_of (two binary64 ⊗ y)))
    (cond (below_bits binary64 y 0x4034000100000000) (large_of (expm1_of (two binary64 ⊗ y)))
    (one binary64 ⊖ plus_zero binary64 ⊘ y))))

-- of |x|, with x's sign
abbrev pub bands_of : Float → Float
bands_of x = cond (is_sign_negative x) (neg (size_of (float_with_sign false x))) (size_of (float_with_sign false x))

-- C11 F.10.2.6: a NaN stays; an infinity gives 1 with its sign; a zero stays
unfoldable pub tanh_of : Float → Float
tanh_of nan = nan
tanh_of (inf true) = minus_one binary64
tanh_of (inf false) = one binary64
tanh_of (fin s zero e) = fin s zero e
tanh_of (fin s (suc m) e) = bands_of (fin s (suc m) e)
