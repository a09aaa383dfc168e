-- sinh of an f64: special values, then the method, each step rounded once.
use Rattle.std.specs.Prelude.{zero, suc, false, cond, Float}
use Rattle.std.specs.Float.{is_sign_negative, float_with_sign, nan, inf, fin, binary64}
use Rattle.float.specs.Band.{below_bits}
use Rattle.float.specs.Constants.{one, two, half, minus_half}
use Rattle.float.specs.Double.{◌⊕◌, ◌⊖◌, ◌⊗◌, ◌⊘◌}
use Rattle.exponential.specs.Expm1.{expm1_of}
use Rattle.hyperbolic.specs.Expo2.{expo2_of}

-- a half with x's sign
abbrev pub half_like : Float → Float
half_like x = cond (is_sign_negative x) (minus_half binary64) (half binary64)

-- 2 sinh of a size below 1, from t = expm1 of it: 2 t - t² / (t + 1)
abbrev pub near_of : Float → Float
near_of t = two binary64 ⊗ t ⊖ t ⊗ t ⊘ (t ⊕ one binary64)

-- and of a size from 1 on: t + t / (t + 1)
abbrev pub mid_of : Float → Float
mid_of t = t ⊕ t ⊘ (t ⊕ one binary64)

-- ---- bands of a finite x; the high words 0x3e500000 (2^-26), 0x3ff00000 (1) and 0x40862e42
abbrev pub bands_of : Float → Float
bands_of x =
    cond (below_bits binary64 x 0x3e50000000000000) x
    (cond (below_bits binary64 x 0x3ff0000000000000) (half_like x ⊗ near_of (expm1_of (float_with_sign false x)))
    (cond (below_bits binary64 x 0x40862e4200000000) (half_like x ⊗ mid_of (expm1_of (float_with_sign false x)))
    (two binary64 ⊗ half_like x ⊗ expo2_of (float_with_sign false x))))

-- C11 F.10.2.5: a NaN stays; an infinity stays; a zero stays
unfoldable pub sinh_of : Float → Float
sinh_of nan = nan
sinh_of (inf s) = inf s
sinh_of (fin s zero e) = fin s zero e
sinh_of (fin s (suc m) e) = bands_of (fin s (suc m) e)
