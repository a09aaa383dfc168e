-- log(1 + x): special values, then the method, each step rounded once.
use Rattle.std.specs.Prelude.{ℕ, zero, suc, Bool, true, false, cond, ℤ, pos, int_le, int_lt, is_nan, to_bits, Float}
use Rattle.std.specs.Float.Ieee.{add, sub, div, lt, eq}
use Rattle.std.specs.Float.{is_sign_negative, Format, nan, inf, fin}
use Rattle.float.specs.Band.{below_bits}
use Rattle.float.specs.Constants.{one, minus_one, plus_zero, infinity, minus_infinity, not_a_number}
use Rattle.logarithm.specs.Kernel.{Logarithm, exponent_of, significand_of, slope_of, join_of, high_part, low_part}
use Rattle.logarithm.specs.Kernel as Kernel

-- the constants of a format, by their bit patterns
pub record Log1p : Type 0 where
  pub log : Logarithm
  -- below this size the result is x
  pub tiny : ℕ
  -- below these sizes the exponent is 0 and f is x itself: of a negative x, and of any other
  pub near : ℕ
  pub near_up : ℕ
  -- the exponent from which the correction term is zero
  pub exact : ℤ

-- the high words 0x3ca00000 (2^-53), 0x3fd2bec4 (the last near one below zero) and 0x3fda8279 (the last above)
abbrev pub double : Log1p
double = record {
  log = Kernel.double;
  tiny = 0x3ca0000000000000;
  near = 0x3fd2bec500000000;
  near_up = 0x3fda827a00000000;
  exact = pos 54;
}

-- 2^-24; 0x3e95f619 is the last near size below zero
abbrev pub single : Log1p
single = record {
  log = Kernel.single;
  tiny = 0x33800000;
  near = 0x3e95f61a;
  near_up = 0x3ed413d0;
  exact = pos 25;
}

module _ (t : Log1p) where
  abbrev F : Format
  F = t.log.format

  -- ---- the correction term: what u = 1 + x lost in rounding, over u
  abbrev pub lost_of : ℤ → Float → Float → Float
  lost_of k x u = cond (int_le (pos 2) k) (sub F (one F) (sub F u x)) (sub F x (sub F u (one F)))

  abbrev pub correction_of : ℤ → Float → Float → Float
  correction_of k x u = cond (int_lt k t.exact) (div F (lost_of k x u) u) (plus_zero F)

  -- ---- kernel and reconstruction, at f and the correction c
  abbrev pub sum_of : ℤ → Float → Float → Float
  sum_of k f c = join_of t.log f (slope_of t.log f) (add F (low_part t.log k) c) (high_part t.log k)

  -- 1 + x is cut
  abbrev pub cut_of : Float → Float → ℕ → Float
  cut_of x u b = sum_of (exponent_of t.log b) (sub F (significand_of t.log b) (one F)) (correction_of (exponent_of t.log b) x u)

  -- x itself serves as f
  abbrev pub near_of : Float → Bool
  near_of x = cond (is_sign_negative x) (below_bits F x t.near) (below_bits F x t.near_up)

  -- ---- bands of a finite x: below -1, -1, tiny, near zero, the rest
  abbrev pub bands_of : Float → Float
  bands_of x =
      cond (lt x (minus_one F)) (not_a_number F)
      (cond (eq x (minus_one F)) (minus_infinity F)
      (cond (below_bits F x t.tiny) x
      (cond (near_of x) (sum_of (pos 0) x (plus_zero F))
      (cut_of x (add F (one F) x) (to_bits F (add F (one F) x))))))

  -- +infinity told from these, by a test on an x that is no NaN
  abbrev pub tests_of : Float → Float
  tests_of x = cond (eq x (infinity F)) x (bands_of x)

  -- and a NaN told from these
  abbrev pub number_tests_of : Float → Float
  number_tests_of x = cond (is_nan x) x (tests_of x)

  -- C11 F.10.3.9: a NaN stays; below -1 NaN; -1 gives -infinity; a zero stays; +infinity stays
  abbrev pub value_of : Float → Float
  value_of nan = nan
  value_of (inf true) = nan
  value_of (inf false) = inf false
  value_of (fin s zero e) = fin s zero e
  value_of (fin s (suc m) e) = bands_of (fin s (suc m) e)

-- log1p of an f64
unfoldable pub log1p_of : Float → Float
log1p_of x = value_of double x
