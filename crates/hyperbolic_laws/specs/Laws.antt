-- Where the values of sinh, cosh and tanh lie, for every f64 that is a number.
use Rattle.std.specs.Prelude.{Float}
use Rattle.std.specs.Float.{binary64}
use Rattle.float.specs.Constants.{one, minus_one}
use Rattle.float.specs.Range.{Number, NumberOf, AtLeast, Between}
use Rattle.hyperbolic.specs.Sinh.{sinh_of}
use Rattle.hyperbolic.specs.Cosh.{cosh_of}
use Rattle.hyperbolic.specs.Tanh.{tanh_of}

-- sinh of a number is a number
abbrev pub SinhNumber : Type 0
SinhNumber = (x : Float) → NumberOf binary64 x → Number (sinh_of x)

-- cosh of a number is a number, and at least 1
abbrev pub CoshAbove : Type 0
CoshAbove = (x : Float) → NumberOf binary64 x → AtLeast (one binary64) (cosh_of x)

-- tanh of a number is a number from -1 to 1
abbrev pub TanhBetween : Type 0
TanhBetween = (x : Float) → NumberOf binary64 x → Between (minus_one binary64) (one binary64) (tanh_of x)
