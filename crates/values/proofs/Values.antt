-- The known values, computed. Assumes nothing.
use Rattle.std.proofs.Common.{refl}
use lib.Ieee.{to_bits, of_bits, add, sub, mul, div, neg, lt, eq, of_int, to_signed}
use Rattle.std.specs.Float.{float_with_sign, is_sign_negative}
use Rattle.exponential.specs.Expm1.{expm1_of}
use Rattle.logarithm.specs.Log.{log_of}
use Rattle.logarithm.specs.Log1p.{log1p_of}
use Rattle.hyperbolic.specs.Sinh.{sinh_of}
use Rattle.hyperbolic.specs.Cosh.{cosh_of}
use Rattle.hyperbolic.specs.Tanh.{tanh_of}
use Rattle.inverse.specs.Acosh.{acosh_of}
use Rattle.inverse.specs.Atanh.{atanh_of}
use Rattle.single.specs.Expm1f.{expm1f_of}
use Rattle.single.specs.Log1pf.{log1pf_of}
use Rattle.values.specs.Known.{known_values, Stand}

pub values_stand : Stand known_values
unfolding expm1_of log_of log1p_of sinh_of cosh_of tanh_of acosh_of atanh_of expm1f_of log1pf_of to_bits of_bits add sub mul div neg lt eq of_int to_signed float_with_sign is_sign_negative
values_stand = (refl, (refl, (refl, (refl, (refl, (refl, (refl, (refl, (refl, (refl, (refl, (refl, (refl, (refl, tt))))))))))))))
