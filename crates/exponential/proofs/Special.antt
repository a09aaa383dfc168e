-- At the special values the bands give what the definitions say first. Assumes nothing.
use Rattle.std.proofs.Common.{◌≡◌, Bool, true, false, pos, refl}
use lib.Ieee.{fin, add, lt, of_bits}
use Rattle.std.specs.Float.{is_sign_negative, float_with_sign}
use Rattle.numeric.proofs.Cases.{Agree}
use Rattle.exponential.specs.Exp as Exp
use Rattle.exponential.specs.Exp.{exp_of}
use Rattle.exponential.specs.Expm1 as Expm1
use Rattle.exponential.specs.Expm1.{double, expm1_of}

exp_zero : (s : Bool) → Exp.bands_of (fin s 0 (pos 0)) ≡ exp_of (fin s 0 (pos 0))
unfolding exp_of of_bits add lt float_with_sign
exp_zero true = refl
exp_zero false = refl

pub exp_bands : Agree Exp.bands_of exp_of
unfolding exp_of of_bits lt
exp_bands = record { at_minus = refl; at_plus = refl; at_zero = exp_zero; elsewhere = λ s m e. refl }

expm1_zero : (s : Bool) → Expm1.bands_of double (fin s 0 (pos 0)) ≡ expm1_of (fin s 0 (pos 0))
unfolding expm1_of of_bits lt float_with_sign
expm1_zero true = refl
expm1_zero false = refl

pub expm1_bands : Agree (Expm1.bands_of double) expm1_of
unfolding expm1_of of_bits lt float_with_sign is_sign_negative
expm1_bands = record { at_minus = refl; at_plus = refl; at_zero = expm1_zero; elsewhere = λ s m e. refl }
