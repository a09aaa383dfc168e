-- At the special values the bands give what the definitions say first. Assumes nothing.
use Rattle.std.proofs.Common.{◌≡◌, Bool, true, false, pos, refl}
use lib.Ieee.{fin, add, sub, mul, div, neg, lt, of_bits}
use Rattle.std.specs.Float.{is_sign_negative, float_with_sign}
use Rattle.numeric.proofs.Cases.{Agree}
use Rattle.exponential.specs.Exp.{exp_of}
use Rattle.hyperbolic.specs.Sinh as Sinh
use Rattle.hyperbolic.specs.Sinh.{sinh_of}
use Rattle.hyperbolic.specs.Cosh as Cosh
use Rattle.hyperbolic.specs.Cosh.{cosh_of}
use Rattle.hyperbolic.specs.Tanh as Tanh
use Rattle.hyperbolic.specs.Tanh.{tanh_of}

sinh_zero : (s : Bool) → Sinh.bands_of (fin s 0 (pos 0)) ≡ sinh_of (fin s 0 (pos 0))
unfolding sinh_of of_bits lt float_with_sign
sinh_zero true = refl
sinh_zero false = refl

pub sinh_bands : Agree Sinh.bands_of sinh_of
unfolding sinh_of exp_of of_bits lt is_sign_negative float_with_sign add sub mul neg
sinh_bands = record { at_minus = refl; at_plus = refl; at_zero = sinh_zero; elsewhere = λ s m e. refl }

cosh_zero : (s : Bool) → Cosh.bands_of (fin s 0 (pos 0)) ≡ cosh_of (fin s 0 (pos 0))
unfolding cosh_of of_bits lt float_with_sign
cosh_zero true = refl
cosh_zero false = refl

pub cosh_bands : Agree Cosh.bands_of cosh_of
unfolding cosh_of exp_of of_bits lt float_with_sign add sub mul neg
cosh_bands = record { at_minus = refl; at_plus = refl; at_zero = cosh_zero; elsewhere = λ s m e. refl }

tanh_zero : (s : Bool) → Tanh.bands_of (fin s 0 (pos 0)) ≡ tanh_of (fin s 0 (pos 0))
unfolding tanh_of of_bits lt float_with_sign is_sign_negative neg
tanh_zero true = refl
tanh_zero false = refl

pub tanh_bands : Agree Tanh.bands_of tanh_of
unfolding tanh_of of_bits lt is_sign_negative float_with_sign add sub div neg
tanh_bands = record { at_minus = refl; at_plus = refl; at_zero = tanh_zero; elsewhere = λ s m e. refl }
