-- Where a float lies.
use Rattle.std.specs.Prelude.{not, T, is_nan, Float}
use Rattle.std.specs.Float.{Format}
use Rattle.std.specs.Float.Ieee.{fits, le}

-- a number: an infinity or a finite value, no NaN
abbrev pub Number : Float → Type 0
Number x = T (not (is_nan x))

-- a number of a format
abbrev pub NumberOf : Format → Float → Type 0
NumberOf f x = T (fits f x) × Number x

-- a number that is at least a
abbrev pub AtLeast : Float → Float → Type 0
AtLeast a x = Number x × T (le a x)

-- a number from a to b, both included
abbrev pub Between : Float → Float → Float → Type 0
Between a b x = Number x × T (le a x) × T (le x b)
