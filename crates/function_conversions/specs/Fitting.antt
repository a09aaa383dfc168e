-- What a function gives is a value of its format. Assumes nothing.
use Rattle.std.specs.Prelude.{zero, suc, true, false, T, ℤ}
use lib.Ieee.{Float, Format, nan, inf, fin, binary64, fits, add, sub, mul, div, neg, lt, eq}
use Rattle.std.specs.Float.Ieee.Fits.{cond-fits, nan-fits, inf-fits, neg-fits, add-fits, sub-fits, mul-fits, div-fits}
use Rattle.std.specs.Float.Ieee.Bits.{of_bits-fits}
use Rattle.std.specs.Float.{is_sign_negative, float_with_sign}
use Rattle.numeric.proofs.Words.{mag_fits}
use Rattle.numeric.proofs.Signs.{by_size}
use Rattle.float.specs.Constants.{one, minus_one, plus_zero, infinity, minus_infinity, not_a_number}
use Rattle.scaling.proofs.Whole.{scaled_fits}
use Rattle.exponential.specs.Exp as Exp
use Rattle.exponential.specs.Exp.{exp_of}
use Rattle.exponential.specs.Expm1 as Expm1
use Rattle.exponential.specs.Expm1.{expm1_of}
use Rattle.logarithm.specs.Log as Log
use Rattle.logarithm.specs.Log.{log_of}
use Rattle.logarithm.specs.Log1p as Log1p
use Rattle.logarithm.specs.Log1p.{log1p_of}
use Rattle.hyperbolic.specs.Sinh as Sinh
use Rattle.hyperbolic.specs.Sinh.{sinh_of}
use Rattle.hyperbolic.specs.Cosh as Cosh
use Rattle.hyperbolic.specs.Cosh.{cosh_of}
use Rattle.hyperbolic.specs.Tanh as Tanh
use Rattle.hyperbolic.specs.Tanh.{tanh_of}
use Rattle.inverse.specs.Asinh as Asinh
use Rattle.inverse.specs.Asinh.{asinh_of}
use Rattle.inverse.specs.Acosh as Acosh
use Rattle.inverse.specs.Acosh.{acosh_of}
use Rattle.inverse.specs.Atanh as Atanh
use Rattle.inverse.specs.Atanh.{atanh_of}

pub one_fits : (f : Format) → T (fits f (one f))
one_fits lib.Ieee.binary32 = of_bits-fits lib.Ieee.binary32 0x3f800000
one_fits binary64 = of_bits-fits binary64 0x3ff0000000000000

pub minus_one_fits : (f : Format) → T (fits f (minus_one f))
minus_one_fits lib.Ieee.binary32 = of_bits-fits lib.Ieee.binary32 0xbf800000
minus_one_fits binary64 = of_bits-fits binary64 0xbff0000000000000

infinity_fits : (f : Format) → T (fits f (infinity f))
infinity_fits lib.Ieee.binary32 = of_bits-fits lib.Ieee.binary32 0x7f800000
infinity_fits binary64 = of_bits-fits binary64 0x7ff0000000000000

minus_infinity_fits : (f : Format) → T (fits f (minus_infinity f))
minus_infinity_fits lib.Ieee.binary32 = of_bits-fits lib.Ieee.binary32 0xff800000
minus_infinity_fits binary64 = of_bits-fits binary64 0xfff0000000000000

not_a_number_fits : (f : Format) → T (fits f (not_a_number f))
not_a_number_fits lib.Ieee.binary32 = of_bits-fits lib.Ieee.binary32 0x7fc00000
not_a_number_fits binary64 = of_bits-fits binary64 0x7ff8000000000000

pub zero_fits : (f : Format) → T (fits f (plus_zero f))
zero_fits lib.Ieee.binary32 = of_bits-fits lib.Ieee.binary32 0
zero_fits binary64 = of_bits-fits binary64 0

-- what fits by itself, or where its parts do
ruleset fitting = (cond-fits, add-fits, sub-fits, mul-fits, div-fits, neg-fits, nan-fits, inf-fits, scaled_fits, one_fits, minus_one_fits, infinity_fits, minus_infinity_fits, not_a_number_fits, zero_fits)

-- ---- expm1 of either format
module _ (t : Expm1.Expm1) where
  abbrev F : Format
  F = t.ln2.format

  doubled_ok : (r e : Float) → T (fits F (Expm1.doubled t r e))
  doubled_ok r e = search fitting

  scaled_ok : (k : ℤ) (r e : Float) → T (fits F (Expm1.scaled_of t k r e))
  scaled_ok k r e = search (fitting, doubled_ok)

  reduced_ok : (k : ℤ) (x : Float) → T (fits F (Expm1.reduced_of t k x))
  reduced_ok k x = search (fitting, scaled_ok)

  bands_ok : (x : Float) → T (fits F x) → T (fits F (Expm1.bands_of t x))
  bands_ok x h = search (fitting, reduced_ok)

  pub expm1_fits : (x : Float) → T (fits F x) → T (fits F (Expm1.value_of t x))
  expm1_fits nan h = nan-fits F
  expm1_fits (inf true) h = minus_one_fits F
  expm1_fits (inf false) h = inf-fits F false
  expm1_fits (fin s zero e) h = h
  expm1_fits (fin s (suc m) e) h = bands_ok (fin s (suc m) e) h

-- ---- log1p of either format
module _ (t : Log1p.Log1p) where
  abbrev G : Format
  G = t.log.format

  log1p_bands_ok : (x : Float) → T (fits G x) → T (fits G (Log1p.bands_of t x))
  log1p_bands_ok x h = search fitting

  pub log1p_fits : (x : Float) → T (fits G x) → T (fits G (Log1p.value_of t x))
  log1p_fits nan h = nan-fits G
  log1p_fits (inf true) h = nan-fits G
  log1p_fits (inf false) h = inf-fits G false
  log1p_fits (fin s zero e) h = h
  log1p_fits (fin s (suc m) e) h = log1p_bands_ok (fin s (suc m) e) h

-- at an f64
pub log1p_of_lem : (x : Float) → T (fits binary64 x) → T (fits binary64 (log1p_of x))
unfolding log1p_of
log1p_of_lem x h = log1p_fits Log1p.double x h

-- ---- exp and log
exp_bands_ok : (x : Float) → T (fits binary64 (Exp.bands_of x))
exp_bands_ok x = search fitting

pub exp_fits : (x : Float) → T (fits binary64 (exp_of x))
exp_fits nan = unfold exp_of in nan-fits binary64
exp_fits (inf true) = unfold exp_of in zero_fits binary64
exp_fits (inf false) = unfold exp_of in inf-fits binary64 false
exp_fits (fin s zero e) = unfold exp_of in one_fits binary64
exp_fits (fin s (suc m) e) = unfold exp_of in exp_bands_ok (fin s (suc m) e)

log_bands_ok : (x : Float) → T (fits binary64 (Log.bands_of x))
log_bands_ok x = search fitting

pub log_fits : (x : Float) → T (fits binary64 (log_of x))
log_fits nan = unfold log_of in nan-fits binary64
log_fits (inf true) = unfold log_of in nan-fits binary64
log_fits (inf false) = unfold log_of in inf-fits binary64 false
log_fits (fin s zero e) = unfold log_of in minus_infinity_fits binary64
log_fits (fin true (suc m) e) = unfold log_of in nan-fits binary64
log_fits (fin false (suc m) e) = unfold log_of in log_bands_ok (fin false (suc m) e)

-- ---- the hyperbolic functions
sinh_bands_ok : (x : Float) → T (fits binary64 x) → T (fits binary64 (Sinh.bands_of x))
sinh_bands_ok x h = search fitting

pub sinh_fits : (x : Float) → T (fits binary64 x) → T (fits binary64 (sinh_of x))
sinh_fits nan h = unfold sinh_of in h
sinh_fits (inf s) h = unfold sinh_of in h
sinh_fits (fin s zero e) h = unfold sinh_of in h
sinh_fits (fin s (suc m) e) h = unfold sinh_of in sinh_bands_ok (fin s (suc m) e) h

cosh_bands_ok : (x : Float) → T (fits binary64 (Cosh.bands_of x))
cosh_bands_ok x = search fitting

pub cosh_fits : (x : Float) → T (fits binary64 (cosh_of x))
cosh_fits nan = unfold cosh_of in nan-fits binary64
cosh_fits (inf s) = unfold cosh_of in inf-fits binary64 false
cosh_fits (fin s zero e) = unfold cosh_of in one_fits binary64
cosh_fits (fin s (suc m) e) = unfold cosh_of in cosh_bands_ok (fin s (suc m) e)

-- of a size, and so with a sign
signed_ok : (g : Float → Float) (x : Float) → T (fits binary64 (g (float_with_sign false x))) → T (fits binary64 (by_size g x))
signed_ok g x h = cond-fits binary64 (is_sign_negative x) (neg (g (float_with_sign false x))) (g (float_with_sign false x)) (neg-fits binary64 (g (float_with_sign false x)) h) h

tanh_size_ok : (y : Float) → T (fits binary64 y) → T (fits binary64 (Tanh.size_of y))
tanh_size_ok y h = search fitting

pub tanh_fits : (x : Float) → T (fits binary64 x) → T (fits binary64 (tanh_of x))
tanh_fits nan h = unfold tanh_of in h
tanh_fits (inf true) h = unfold tanh_of in minus_one_fits binary64
tanh_fits (inf false) h = unfold tanh_of in one_fits binary64
tanh_fits (fin s zero e) h = unfold tanh_of in h
tanh_fits (fin s (suc m) e) h = unfold tanh_of in signed_ok Tanh.size_of _ (tanh_size_ok _ (mag_fits binary64 _ h))

-- ---- their inverses
asinh_size_ok : (y : Float) → T (fits binary64 y) → T (fits binary64 (Asinh.size_of y))
asinh_size_ok y h = search (fitting, log1p_of_lem, log_fits)

pub asinh_fits : (x : Float) → T (fits binary64 x) → T (fits binary64 (asinh_of x))
asinh_fits nan h = unfold asinh_of in h
asinh_fits (inf s) h = unfold asinh_of in h
asinh_fits (fin s zero e) h = unfold asinh_of in h
asinh_fits (fin s (suc m) e) h = unfold asinh_of in signed_ok Asinh.size_of _ (asinh_size_ok _ (mag_fits binary64 _ h))

acosh_tests_ok : (x : Float) → T (fits binary64 (Acosh.tests_of x))
acosh_tests_ok x = search (fitting, log1p_of_lem, log_fits)

pub acosh_fits : (x : Float) → T (fits binary64 (acosh_of x))
acosh_fits nan = unfold acosh_of in nan-fits binary64
acosh_fits (inf true) = unfold acosh_of in nan-fits binary64
acosh_fits (inf false) = unfold acosh_of in inf-fits binary64 false
acosh_fits (fin s m e) = unfold acosh_of in acosh_tests_ok (fin s m e)

atanh_size_ok : (y : Float) → T (fits binary64 y) → T (fits binary64 (Atanh.size_of y))
atanh_size_ok y h = search fitting

pub atanh_fits : (x : Float) → T (fits binary64 x) → T (fits binary64 (atanh_of x))
atanh_fits nan h = unfold atanh_of in h
atanh_fits (inf s) h = unfold atanh_of in nan-fits binary64
atanh_fits (fin s zero e) h = unfold atanh_of in h
atanh_fits (fin s (suc m) e) h = unfold atanh_of in signed_ok Atanh.size_of _ (atanh_size_ok _ (mag_fits binary64 _ h))
