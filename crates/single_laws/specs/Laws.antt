-- Where the values of expm1f lie, for every f32 that is a number.
use Rattle.std.specs.Prelude.{T, Float}
use Rattle.std.specs.Float.{binary32}
use Rattle.std.specs.Float.Ieee.{fits, le}
use Rattle.float.specs.Constants.{plus_zero, minus_one}
use Rattle.float.specs.Range.{NumberOf, AtLeast}
use Rattle.single.specs.Expm1f.{expm1f_of}

-- expm1f of a number is a number, and at least -1
abbrev pub Expm1fAbove : Type 0
Expm1fAbove = (x : Float) → NumberOf binary32 x → AtLeast (minus_one binary32) (expm1f_of x)

-- from zero on it is at least zero
abbrev pub Expm1fRises : Type 0
Expm1fRises = (x : Float) → T (fits binary32 x) → T (le (plus_zero binary32) x) → AtLeast (plus_zero binary32) (expm1f_of x)
