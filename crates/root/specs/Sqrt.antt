-- What `sqrt` returns, and the law that makes it the right answer. Every comparison is of whole numbers.
use Rattle.std.specs.Prelude.{ℕ, zero, suc, ◌+◌, ◌*◌, ◌/◌, ◌^◌, ◌<◌, true, false, T, Float}
use Rattle.std.specs.Float.Ieee.{up, down, round, fits, lt, le}
use Rattle.std.specs.Float.Ieee.Positive.{num, den, positive}
use Rattle.std.specs.Float.Ieee.Scale.{finite}
use Rattle.std.specs.Float as Floats
use Rattle.std.specs.Float.Ieee.{root_twice}
use Rattle.std.specs.Float.{Format, nan, inf, fin}

-- The root of a / b, rounded once. `root_twice n` is twice the root of n where that is whole, and otherwise the odd number between twice its whole
-- neighbours. So the root is taken to 2271 binary places, far more than a format tells apart, and half a place more says that it goes on.
abbrev pub root_of : Format → ℕ → ℕ → Float
root_of f a b = round f false (root_twice (a * 2 ^ 4542 / b)) (2 ^ 2272)

-- The root of x. NaN, +infinity and either zero come back as they are; below zero, and at -infinity, there is no root, which is NaN.
unfoldable pub sqrt_of : Format → Float → Float
sqrt_of f nan = nan
sqrt_of f (inf false) = inf false
sqrt_of f (inf true) = nan
sqrt_of f (fin s zero e) = fin s zero e
sqrt_of f (fin true (suc m) e) = nan
sqrt_of f (fin false (suc m) e) = root_of f (suc m * up e) (down e)

-- ---- the law: the result is nearer to the exact root than every other value of the format

abbrev pub square : ℕ → ℕ
square n = n * n

-- the sum y + z of two finite values that are not negative, as the fraction `sum_top` / `sum_bottom`
abbrev pub sum_top : Float → Float → ℕ
sum_top y z = num y * den z + num z * den y

abbrev pub sum_bottom : Float → Float → ℕ
sum_bottom y z = den y * den z

-- The middle of y and z is below the root of x: (y + z)² < 4 x. So the root is nearer to the larger of the two.
abbrev pub MiddleBelow : Float → Float → Float → Type 0
MiddleBelow x y z = square (sum_top y z) * den x < 4 * num x * square (sum_bottom y z)

-- The middle of y and z is above the root of x: 4 x < (y + z)². So the root is nearer to the smaller of the two.
abbrev pub MiddleAbove : Float → Float → Float → Type 0
MiddleAbove x y z = 4 * num x * square (sum_bottom y z) < square (sum_top y z) * den x

-- y is a value of the format f, finite and above zero, and the root of x is nearer to y than to any other value z that is finite and not negative
pub record NearestRoot (f : Format) (x y : Float) : Type 0 where
  pub held : T (fits f y)
  pub above_zero : T (positive y)
  pub from_below : (z : Float) → T (fits f z) → T (le Floats.float_zero z) → T (lt z y) → MiddleBelow x y z
  pub from_above : (z : Float) → T (fits f z) → T (finite z) → T (lt y z) → MiddleAbove x y z
