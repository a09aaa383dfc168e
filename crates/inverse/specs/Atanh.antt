-- atanh of an f64: special values, then the method, each step rounded once.
use Rattle.std.specs.Prelude.{zero, suc, false, cond, Float}
use Rattle.std.specs.Float.Ieee.{neg, lt, eq}
use Rattle.std.specs.Float.{is_sign_negative, float_with_sign, nan, inf, fin, binary64}
use Rattle.float.specs.Band.{below_bits}
use Rattle.float.specs.Constants.{one, two, half, infinity, not_a_number}
use Rattle.float.specs.Double.{◌⊕◌, ◌⊖◌, ◌⊗◌, ◌⊘◌}
use Rattle.logarithm.specs.Log1p.{log1p_of}

-- log(1 + 2 y + 2 y² / (1 - y)) / 2
abbrev pub small_of : Float → Float
small_of y = half binary64 ⊗ log1p_of (two binary64 ⊗ y ⊕ two binary64 ⊗ y ⊗ y ⊘ (one binary64 ⊖ y))

-- log(1 + 2 (y / (1 - y))) / 2
abbrev pub large_of : Float → Float
large_of y = half binary64 ⊗ log1p_of (two binary64 ⊗ (y ⊘ (one binary64 ⊖ y)))

-- ---- bands of a size y: beyond 1, 1, below 2^-32, 1/2, and the rest
abbrev pub size_of : Float → Float
size_of y =
    cond (lt (one binary64) y) (not_a_number binary64)
    (cond (eq y (one binary64)) (infinity binary64)
    (cond (below_bits binary64 y 0x3df0000000000000) y
    (cond (below_bits binary64 y 0x3fe0000000000000) (small_of y)
    (large_of y))))

-- of |x|, with x's sign
abbrev pub bands_of : Float → Float
bands_of x = cond (is_sign_negative x) (neg (size_of (float_with_sign false x))) (size_of (float_with_sign false x))

-- C11 F.10.2.3: a NaN stays; beyond 1 in size it is NaN, at the infinities too; 1 in size gives an infinity of its sign; a zero stays
unfoldable pub atanh_of : Float → Float
atanh_of nan = nan
atanh_of (inf s) = nan
atanh_of (fin s zero e) = fin s zero e
atanh_of (fin s (suc m) e) = bands_of (fin s (suc m) e)
