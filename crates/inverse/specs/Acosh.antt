-- acosh of an f64: special values, then the method, each step rounded once.
use Rattle.std.specs.Prelude.{true, false, cond, from_bits, Float}
use Rattle.std.specs.Float.{nan, inf, fin, binary64}
use Rattle.std.specs.Float.Ieee.{lt, eq}
use Rattle.float.specs.Band.{below_bits}
use Rattle.float.specs.Constants.{one, two, plus_zero, not_a_number}
use Rattle.float.specs.Double.{◌⊕◌, ◌⊖◌, ◌⊗◌, ◌⊘◌}
use Rattle.root.specs.Sqrt.{sqrt_of}
use Rattle.logarithm.specs.Log.{log_of}
use Rattle.logarithm.specs.Log1p.{log1p_of}

abbrev pub ln2 : Float
ln2 = from_bits binary64 0x3fe62e42fefa39ef

-- with d = x - 1: log(1 + d + √(d² + 2 d))
abbrev pub near_of : Float → Float
near_of d = log1p_of (d ⊕ sqrt_of binary64 (d ⊗ d ⊕ two binary64 ⊗ d))

-- log(2 x - 1 / (x + √(x² - 1)))
abbrev pub mid_of : Float → Float
mid_of x = log_of (two binary64 ⊗ x ⊖ one binary64 ⊘ (x ⊕ sqrt_of binary64 (x ⊗ x ⊖ one binary64)))

-- log x + ln 2
abbrev pub large_of : Float → Float
large_of x = log_of x ⊕ ln2

-- ---- bands of an x above 1: below 2, 2^26, and the rest
abbrev pub bands_of : Float → Float
bands_of x =
    cond (below_bits binary64 x 0x4000000000000000) (near_of (x ⊖ one binary64))
    (cond (below_bits binary64 x 0x4190000000000000) (mid_of x)
    (large_of x))

-- below 1 and at 1 told from these, by tests on an x that is no NaN
abbrev pub tests_of : Float → Float
tests_of x = cond (lt x (one binary64)) (not_a_number binary64) (cond (eq x (one binary64)) (plus_zero binary64) (bands_of x))

-- C11 F.10.2.1: a NaN stays; below 1 it is NaN, at -infinity too; 1 gives +0; +infinity stays
unfoldable pub acosh_of : Float → Float
acosh_of nan = nan
acosh_of (inf true) = nan
acosh_of (inf false) = inf false
acosh_of (fin s m e) = tests_of (fin s m e)
