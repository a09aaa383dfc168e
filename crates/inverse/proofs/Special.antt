-- At the special values the tests and bands give what the definitions say first. Assumes nothing.
use Rattle.std.proofs.Common.{◌≡◌, Bool, true, false, pos, refl}
use lib.Ieee.{fin, add, neg, lt, eq, of_bits}
use Rattle.std.specs.Float.{is_sign_negative, float_with_sign}
use Rattle.numeric.proofs.Cases.{Agree}
use Rattle.logarithm.specs.Log.{log_of}
use Rattle.inverse.specs.Asinh as Asinh
use Rattle.inverse.specs.Asinh.{asinh_of}
use Rattle.inverse.specs.Acosh as Acosh
use Rattle.inverse.specs.Acosh.{acosh_of}
use Rattle.inverse.specs.Atanh as Atanh
use Rattle.inverse.specs.Atanh.{atanh_of}

asinh_zero : (s : Bool) → Asinh.bands_of (fin s 0 (pos 0)) ≡ asinh_of (fin s 0 (pos 0))
unfolding asinh_of of_bits lt float_with_sign is_sign_negative neg
asinh_zero true = refl
asinh_zero false = refl

pub asinh_bands : Agree Asinh.bands_of asinh_of
unfolding asinh_of log_of of_bits lt is_sign_negative float_with_sign add neg
asinh_bands = record { at_minus = refl; at_plus = refl; at_zero = asinh_zero; elsewhere = λ s m e. refl }

pub acosh_tests : Agree Acosh.tests_of acosh_of
unfolding acosh_of log_of of_bits lt eq float_with_sign add
acosh_tests = record { at_minus = refl; at_plus = refl; at_zero = λ s. refl; elsewhere = λ s m e. refl }

atanh_zero : (s : Bool) → Atanh.bands_of (fin s 0 (pos 0)) ≡ atanh_of (fin s 0 (pos 0))
unfolding atanh_of of_bits lt eq float_with_sign is_sign_negative neg
atanh_zero true = refl
atanh_zero false = refl

pub atanh_bands : Agree Atanh.bands_of atanh_of
unfolding atanh_of of_bits lt eq is_sign_negative float_with_sign neg
atanh_bands = record { at_minus = refl; at_plus = refl; at_zero = atanh_zero; elsewhere = λ s m e. refl }
