-- What is computed of the tables of binary32: the special values. Assumes nothing.
use Rattle.std.proofs.Common.{◌≡◌, Bool, true, false, pos, refl}
use lib.Ieee.{fin, lt, eq, of_bits}
use Rattle.std.specs.Float.{is_sign_negative, float_with_sign}
use Rattle.numeric.proofs.Cases.{Agree}
use Rattle.exponential.specs.Expm1 as Expm1
use Rattle.logarithm.specs.Log1p as Log1p
use Rattle.single.specs.Expm1f.{expm1f_of}
use Rattle.single.specs.Log1pf.{log1pf_of}

-- ---- expm1f
expm1f_zero : (s : Bool) → Expm1.bands_of Expm1.single (fin s 0 (pos 0)) ≡ expm1f_of (fin s 0 (pos 0))
unfolding expm1f_of of_bits lt float_with_sign
expm1f_zero true = refl
expm1f_zero false = refl

pub expm1f_bands : Agree (Expm1.bands_of Expm1.single) expm1f_of
unfolding expm1f_of of_bits lt float_with_sign is_sign_negative
expm1f_bands = record { at_minus = refl; at_plus = refl; at_zero = expm1f_zero; elsewhere = λ s m e. refl }

-- ---- log1pf
log1pf_zero : (s : Bool) → Log1p.tests_of Log1p.single (fin s 0 (pos 0)) ≡ log1pf_of (fin s 0 (pos 0))
unfolding log1pf_of of_bits eq lt float_with_sign
log1pf_zero true = refl
log1pf_zero false = refl

pub log1pf_tests : Agree (Log1p.tests_of Log1p.single) log1pf_of
unfolding log1pf_of of_bits eq lt
log1pf_tests = record { at_minus = refl; at_plus = refl; at_zero = log1pf_zero; elsewhere = λ s m e. refl }
