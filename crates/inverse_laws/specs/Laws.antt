-- Where the values of the inverse hyperbolic functions lie.
use Rattle.std.specs.Prelude.{not, T, is_nan, Float}
use Rattle.std.specs.Float.{binary64}
use Rattle.std.specs.Float.Ieee.{fits, le}
use Rattle.float.specs.Constants.{one, minus_one}
use Rattle.inverse.specs.Asinh.{asinh_of}
use Rattle.inverse.specs.Acosh.{acosh_of}
use Rattle.inverse.specs.Atanh.{atanh_of}

-- asinh of every number is a number
abbrev pub AsinhNumber : Type 0
AsinhNumber = (x : Float) → T (not (is_nan x)) → T (not (is_nan (asinh_of x)))

-- acosh of every number from 1 on is a number
abbrev pub AcoshNumber : Type 0
AcoshNumber = (x : Float) → T (le (one binary64) x) → T (not (is_nan (acosh_of x)))

-- atanh of every f64 that is a number from -1 to 1 is a number
abbrev pub AtanhNumber : Type 0
AtanhNumber = (x : Float) → T (fits binary64 x) → T (le (minus_one binary64) x) → T (le x (one binary64)) → T (not (is_nan (atanh_of x)))
