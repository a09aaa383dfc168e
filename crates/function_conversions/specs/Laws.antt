-- What each pair of functions owes. Assumes nothing.
use Rattle.std.specs.Prelude.{◌≡◌, T, refl, Float}
use Rattle.std.specs.Float.{binary32, binary64}
use Rattle.std.specs.Float.Ieee.{fits, neg, le, of_bits, is_nan}
use Rattle.float.specs.Constants.{one, minus_one, plus_zero}
use Rattle.exponential.specs.Exp.{exp_of}
use Rattle.exponential.specs.Expm1 as Expm1
use Rattle.exponential.specs.Expm1.{expm1_of}
use Rattle.logarithm.specs.Log.{log_of}
use Rattle.logarithm.specs.Log1p as Log1p
use Rattle.logarithm.specs.Log1p.{log1p_of}
use Rattle.hyperbolic.specs.Sinh.{sinh_of}
use Rattle.hyperbolic.specs.Cosh.{cosh_of}
use Rattle.hyperbolic.specs.Tanh.{tanh_of}
use Rattle.hyperbolic.proofs.Oddness.{sinh_odd, tanh_odd}
use Rattle.inverse.specs.Asinh.{asinh_of}
use Rattle.inverse.specs.Acosh.{acosh_of}
use Rattle.inverse.specs.Atanh.{atanh_of}
use Rattle.inverse.proofs.Oddness.{asinh_odd, atanh_odd}
use Rattle.single.specs.Expm1f.{expm1f_of}
use Rattle.single.specs.Log1pf.{log1pf_of}
use Rattle.exponential_laws.proofs.Exp.{exp_above}
use Rattle.exponential_laws.proofs.Expm1.{expm1_above}
use Rattle.single_laws.proofs.Expm1f.{expm1f_above}
use Rattle.hyperbolic_laws.proofs.Sinh.{sinh_number}
use Rattle.hyperbolic_laws.proofs.Cosh.{cosh_above}
use Rattle.hyperbolic_laws.proofs.Tanh.{tanh_between}
use Rattle.logarithm_laws.proofs.Log.{log_number}
use Rattle.logarithm_laws.proofs.Double.{log1p_number}
use Rattle.logarithm_laws.proofs.Single.{log1pf_number}
use Rattle.inverse_laws.proofs.Asinh.{asinh_number}
use Rattle.inverse_laws.proofs.Acosh.{acosh_number}
use Rattle.inverse_laws.proofs.Atanh.{atanh_number}
use Rattle.kinds.specs.Floats.{floats}
use Rattle.conversion.specs.Conversions.{Sound, AllNumbers, Mirrored}
use Rattle.conversion.specs.FloatRules.{between, upward, everywhere}
use Rattle.conversion.proofs.Ranges.{Number, between_sound, between_mirrored, upward_sound, everywhere_sound, everywhere_all, everywhere_mirrored}
use Rattle.function_conversions.specs.Fitting.{one_fits, minus_one_fits, zero_fits, log1p_of_lem, exp_fits, log_fits, expm1_fits, log1p_fits, sinh_fits, cosh_fits, tanh_fits, asinh_fits, acosh_fits, atanh_fits}

-- the ends are numbers
one_number : Number binary64 (one binary64)
one_number = (one_fits binary64, unfold of_bits is_nan in tt)

minus_one_number : Number binary64 (minus_one binary64)
minus_one_number = (minus_one_fits binary64, unfold of_bits is_nan in tt)

minus_one_number_32 : Number binary32 (minus_one binary32)
minus_one_number_32 = (minus_one_fits binary32, unfold of_bits is_nan in tt)

zero_number : Number binary64 (plus_zero binary64)
zero_number = (zero_fits binary64, unfold of_bits is_nan in tt)

ends_rise : T (le (minus_one binary64) (one binary64))
unfolding of_bits le
ends_rise = tt

ends_turned : minus_one binary64 ≡ neg (one binary64)
unfolding of_bits neg
ends_turned = refl

-- the values fit
expm1_ok : (x : Float) → T (fits binary64 x) → T (fits binary64 (expm1_of x))
unfolding expm1_of
expm1_ok x h = expm1_fits Expm1.double x h

expm1f_ok : (x : Float) → T (fits binary32 x) → T (fits binary32 (expm1f_of x))
unfolding expm1f_of
expm1f_ok x h = expm1_fits Expm1.single x h

log1pf_ok : (x : Float) → T (fits binary32 x) → T (fits binary32 (log1pf_of x))
unfolding log1pf_of
log1pf_ok x h = log1p_fits Log1p.single x h

-- ---- from an end upward
pub exp_sound : Sound (floats binary64) (upward binary64 exp_of log_of (plus_zero binary64))
exp_sound = upward_sound binary64 exp_of log_of (plus_zero binary64) zero_number (λ x n. (exp_fits x, (exp_above x n).1)) (λ x n l. (log_fits x, log_number x l))

pub expm1_sound : Sound (floats binary64) (upward binary64 expm1_of log1p_of (minus_one binary64))
expm1_sound =
    upward_sound binary64 expm1_of log1p_of (minus_one binary64) minus_one_number (λ x n. (expm1_ok x n.0, (expm1_above x n).1)) (λ x n l. (log1p_of_lem x n.0, log1p_number x n.0 l))

pub expm1f_sound : Sound (floats binary32) (upward binary32 expm1f_of log1pf_of (minus_one binary32))
expm1f_sound =
    upward_sound binary32 expm1f_of log1pf_of (minus_one binary32) minus_one_number_32 (λ x n. (expm1f_ok x n.0, (expm1f_above x n).1)) (λ x n l. (log1pf_ok x n.0, log1pf_number x n.0 l))

pub cosh_sound : Sound (floats binary64) (upward binary64 cosh_of acosh_of (one binary64))
cosh_sound = upward_sound binary64 cosh_of acosh_of (one binary64) one_number (λ x n. (cosh_fits x, (cosh_above x n).1)) (λ x n l. (acosh_fits x, acosh_number x l))

-- ---- from -1 to 1
pub tanh_sound : Sound (floats binary64) (between tanh_of atanh_of (minus_one binary64) (one binary64))
tanh_sound =
    between_sound binary64 tanh_of atanh_of (minus_one binary64) (one binary64) minus_one_number one_number ends_rise
    (λ x n. (tanh_fits x n.0, (tanh_between x n).1, (tanh_between x n).2))
    (λ x n l h. (atanh_fits x n.0, atanh_number x n.0 l h))

pub tanh_mirrored : Mirrored (floats binary64) (between tanh_of atanh_of (minus_one binary64) (one binary64))
tanh_mirrored = between_mirrored binary64 tanh_of atanh_of (minus_one binary64) (one binary64) ends_turned tanh_odd atanh_odd

-- ---- all numbers
pub sinh_sound : Sound (floats binary64) (everywhere binary64 sinh_of asinh_of)
sinh_sound = everywhere_sound binary64 sinh_of asinh_of (λ x n. (sinh_fits x n.0, sinh_number x n)) (λ x n. (asinh_fits x n.0, asinh_number x n.1))

pub sinh_all : AllNumbers (floats binary64) (everywhere binary64 sinh_of asinh_of)
sinh_all = everywhere_all binary64 sinh_of asinh_of

pub sinh_mirrored : Mirrored (floats binary64) (everywhere binary64 sinh_of asinh_of)
sinh_mirrored = everywhere_mirrored binary64 sinh_of asinh_of sinh_odd asinh_odd
