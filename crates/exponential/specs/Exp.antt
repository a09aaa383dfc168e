-- exp of an f64: special values, then the method, each step rounded once.
use Rattle.std.specs.Prelude.{ℕ, zero, suc, true, false, cond, List, [], ◌∷◌, ℤ, pos, from_bits, Float}
use Rattle.std.specs.Float.{nan, inf, fin, binary64}
use Rattle.std.specs.Float.Ieee.{lt}
use Rattle.float.specs.Band.{below_bits}
use Rattle.float.specs.Double.{◌⊕◌, ◌⊖◌, ◌⊗◌, ◌⊘◌}
use Rattle.float.specs.Constants.{one, two, plus_zero, infinity}
use Rattle.float.specs.Polynomial.{horner}
use Rattle.scaling.specs.Scalbn.{scalbn_of}
use Rattle.exponential.specs.Ln2.{double, equal_z, count_of, high_rest, low_rest}

-- the coefficients of the kernel, by their bit patterns
abbrev pub p : List ℕ
p = 0x3FC555555555553E ∷ 0xBF66C16C16BEBD93 ∷ 0x3F11566AAF25DE2C ∷ 0xBEBBBD41C5D26BF1 ∷ 0x3E66376972BEA4D0 ∷ []

-- 709.782712893383973096 and -745.13321910194110842
abbrev pub overflow : Float
overflow = from_bits binary64 0x40862e42fefa39ef

abbrev pub underflow : Float
underflow = from_bits binary64 0xc0874910d52d3051

-- ---- kernel
-- r - r² P(r²)
abbrev pub kernel_of : Float → Float
kernel_of r = r ⊖ (r ⊗ r) ⊗ horner binary64 p (r ⊗ r)

-- exp of the rest r = hi - lo
abbrev pub join_of : Float → Float → Float → Float
join_of r hi lo = one binary64 ⊕ (r ⊗ kernel_of r ⊘ (two binary64 ⊖ kernel_of r) ⊖ lo ⊕ hi)

-- ---- reconstruction: 2^k exp(r)
abbrev pub scaled_of : ℤ → Float → Float → Float
scaled_of k hi lo = scalbn_of binary64 (join_of (hi ⊖ lo) hi lo) k

abbrev pub reduced_of : ℤ → Float → Float
reduced_of k x = cond (equal_z k (pos 0)) (join_of x x (plus_zero binary64)) (scaled_of k (high_rest double k x) (low_rest double k))

-- ---- bands of a finite x; the high word 0x3e300000 is the last of the second
abbrev pub bands_of : Float → Float
bands_of x =
    cond (lt overflow x) (infinity binary64)
    (cond (lt x underflow) (plus_zero binary64)
    (cond (below_bits binary64 x 0x3e30000100000000) (one binary64 ⊕ x)
    (reduced_of (count_of double x) x)))

-- C11 F.10.3.1: a NaN stays; -infinity gives +0; +infinity stays; a zero gives 1
unfoldable pub exp_of : Float → Float
exp_of nan = nan
exp_of (inf true) = plus_zero binary64
exp_of (inf false) = inf false
exp_of (fin s zero e) = one binary64
exp_of (fin s (suc m) e) = bands_of (fin s (suc m) e)
