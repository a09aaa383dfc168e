-- Where the logarithms' values lie.
use Rattle.std.specs.Prelude.{true, false, not, T, pos, is_nan, Float}
use Rattle.std.specs.Float.{fin, binary32, binary64}
use Rattle.std.specs.Float.Ieee.{fits, le, lt}
use Rattle.std.specs.Float.Ieee.Scale.{finite}
use Rattle.float.specs.Constants.{minus_one, plus_zero}
use Rattle.logarithm.specs.Log.{log_of}
use Rattle.logarithm.specs.Log1p.{log1p_of}
use Rattle.single.specs.Log1pf.{log1pf_of}

-- log of every number from 0 on, either zero included, is a number
abbrev pub LogNumber : Type 0
LogNumber = (x : Float) → T (le (plus_zero binary64) x) → T (not (is_nan (log_of x)))

-- of every finite x above zero it is finite: at most 748 in size
abbrev pub LogBounded : Type 0
LogBounded = (x : Float) → T (finite x) → T (lt (plus_zero binary64) x) → T (le (fin true 748 (pos 0)) (log_of x)) × T (le (log_of x) (fin false 748 (pos 0)))

-- log1p of every f64 that is a number from -1 on is a number
abbrev pub Log1pNumber : Type 0
Log1pNumber = (x : Float) → T (fits binary64 x) → T (le (minus_one binary64) x) → T (not (is_nan (log1p_of x)))

-- of every finite one above -1 it is finite: at most 720 in size
abbrev pub Log1pBounded : Type 0
Log1pBounded = (x : Float) → T (fits binary64 x) → T (finite x) → T (lt (minus_one binary64) x) → T (le (fin true 720 (pos 0)) (log1p_of x)) × T (le (log1p_of x) (fin false 720 (pos 0)))

-- the same of the f32 function, with 100
abbrev pub Log1pfNumber : Type 0
Log1pfNumber = (x : Float) → T (fits binary32 x) → T (le (minus_one binary32) x) → T (not (is_nan (log1pf_of x)))

abbrev pub Log1pfBounded : Type 0
Log1pfBounded = (x : Float) → T (fits binary32 x) → T (finite x) → T (lt (minus_one binary32) x) → T (le (fin true 100 (pos 0)) (log1pf_of x)) × T (le (log1pf_of x) (fin false 100 (pos 0)))
