-- cosh of an f64: special values, then the method, each step rounded once.
use Rattle.std.specs.Prelude.{zero, suc, false, cond, Float}
use Rattle.std.specs.Float.{float_with_sign, nan, inf, fin, binary64}
use Rattle.float.specs.Band.{below_bits}
use Rattle.float.specs.Constants.{one, two, half}
use Rattle.float.specs.Double.{◌⊕◌, ◌⊗◌, ◌⊘◌}
use Rattle.exponential.specs.Exp.{exp_of}
use Rattle.exponential.specs.Expm1.{expm1_of}
use Rattle.hyperbolic.specs.Expo2.{expo2_of}

-- from t = expm1 of the size: 1 + t² / (2 (1 + t))
abbrev pub near_of : Float → Float
near_of t = one binary64 ⊕ t ⊗ t ⊘ (two binary64 ⊗ (one binary64 ⊕ t))

-- from t = exp of the size: (t + 1 / t) / 2
abbrev pub mid_of : Float → Float
mid_of t = half binary64 ⊗ (t ⊕ one binary64 ⊘ t)

-- ---- bands of a finite x; the high words 0x3e500000 (2^-26), 0x3fe62e42 (about ln 2) and 0x40862e42
abbrev pub bands_of : Float → Float
bands_of x =
    cond (below_bits binary64 x 0x3e50000000000000) (one binary64)
    (cond (below_bits binary64 x 0x3fe62e4200000000) (near_of (expm1_of (float_with_sign false x)))
    (cond (below_bits binary64 x 0x40862e4200000000) (mid_of (exp_of (float_with_sign false x)))
    (expo2_of (float_with_sign false x))))

-- C11 F.10.2.4: a NaN stays; an infinity gives +infinity; a zero gives 1
unfoldable pub cosh_of : Float → Float
cosh_of nan = nan
cosh_of (inf s) = inf false
cosh_of (fin s zero e) = one binary64
cosh_of (fin s (suc m) e) = bands_of (fin s (suc m) e)
