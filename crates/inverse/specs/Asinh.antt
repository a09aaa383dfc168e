-- asinh of an f64: special values, then the method, each step rounded once.
use Rattle.std.specs.Prelude.{zero, suc, false, cond, from_bits, Float}
use Rattle.std.specs.Float.Ieee.{neg}
use Rattle.std.specs.Float.{is_sign_negative, float_with_sign, nan, inf, fin, binary64}
use Rattle.float.specs.Band.{below_bits}
use Rattle.float.specs.Constants.{one, two}
use Rattle.float.specs.Double.{◌⊕◌, ◌⊗◌, ◌⊘◌}
use Rattle.root.specs.Sqrt.{sqrt_of}
use Rattle.logarithm.specs.Log.{log_of}
use Rattle.logarithm.specs.Log1p.{log1p_of}

abbrev pub ln2 : Float
ln2 = from_bits binary64 0x3fe62e42fefa39ef

-- √(y² + 1)
abbrev pub root_of : Float → Float
root_of y = sqrt_of binary64 (y ⊗ y ⊕ one binary64)

-- log(1 + y + y² / (√(y² + 1) + 1))
abbrev pub small_of : Float → Float
small_of y = log1p_of (y ⊕ y ⊗ y ⊘ (root_of y ⊕ one binary64))

-- log(2 y + 1 / (√(y² + 1) + y))
abbrev pub mid_of : Float → Float
mid_of y = log_of (two binary64 ⊗ y ⊕ one binary64 ⊘ (root_of y ⊕ y))

-- log y + ln 2
abbrev pub large_of : Float → Float
large_of y = log_of y ⊕ ln2

-- ---- bands of a size y: below 2^-26, 2, 2^26, and the rest
abbrev pub size_of : Float → Float
size_of y =
    cond (below_bits binary64 y 0x3e50000000000000) y
    (cond (below_bits binary64 y 0x4000000000000000) (small_of y)
    (cond (below_bits binary64 y 0x4190000000000000) (mid_of y)
    (large_of y)))

-- of |x|, with x's sign
abbrev pub bands_of : Float → Float
bands_of x = cond (is_sign_negative x) (neg (size_of (float_with_sign false x))) (size_of (float_with_sign false x))

-- C11 F.10.2.2: a NaN stays; an infinity stays; a zero stays
unfoldable pub asinh_of : Float → Float
asinh_of nan = nan
asinh_of (inf s) = inf s
asinh_of (fin s zero e) = fin s zero e
asinh_of (fin s (suc m) e) = bands_of (fin s (suc m) e)
