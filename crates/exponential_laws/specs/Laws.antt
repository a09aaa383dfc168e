-- Where the values of expm1 and exp lie, for every f64 that is a number.
use Rattle.std.specs.Prelude.{T, Float}
use Rattle.std.specs.Float.{binary64}
use Rattle.std.specs.Float.Ieee.{fits, le}
use Rattle.std.specs.Float.Ieee.Scale.{finite}
use Rattle.float.specs.Band.{below_bits}
use Rattle.float.specs.Constants.{plus_zero, minus_one}
use Rattle.float.specs.Range.{NumberOf, AtLeast}
use Rattle.exponential.specs.Exp.{exp_of}
use Rattle.exponential.specs.Expm1.{expm1_of}

-- expm1 of a number is a number, and at least -1
abbrev pub Expm1Above : Type 0
Expm1Above = (x : Float) → NumberOf binary64 x → AtLeast (minus_one binary64) (expm1_of x)

-- from zero on it is at least zero
abbrev pub Expm1Rises : Type 0
Expm1Rises = (x : Float) → T (fits binary64 x) → T (le (plus_zero binary64) x) → AtLeast (plus_zero binary64) (expm1_of x)

-- and finite below the high word 0x40862e42, about 709.78
abbrev pub Expm1Finite : Type 0
Expm1Finite = (x : Float) → T (fits binary64 x) → T (le (plus_zero binary64) x) → T (below_bits binary64 x 0x40862e4200000000) → T (finite (expm1_of x))

-- exp of a number is a number, and at least zero
abbrev pub ExpAbove : Type 0
ExpAbove = (x : Float) → NumberOf binary64 x → AtLeast (plus_zero binary64) (exp_of x)
