-- Steps that the three functions share: a logarithm of what is not negative, and what is done to it. Assumes nothing.
use Rattle.std.proofs.Common.{◌≡◌, ℕ, ◌*◌, ◌<◌, true, false, not, T, pos}
use lib.Dec.{not_T}
use lib.Ieee.{Float, nan, inf, fin, binary64, ones, hid, fits, of_bits, neg, add, mul, le, lt, is_nan}
use lib.Ieee.Scale.{finite}
use Rattle.std.specs.Float.{is_sign_negative}
use Rattle.numeric.proofs.Rounding.{le_trans_f}
use Rattle.numeric.proofs.Operations.{add_mono, mul_mono_r}
use Rattle.numeric.proofs.Intervals.{mk, In, finite_between}
use Rattle.numeric.proofs.Programs.{le_refl_f}
use Rattle.numeric.proofs.Order.{zero_f, number_above, finite_number, lt-le, le-lt, le_apart, no_N}
use Rattle.numeric.proofs.Tests.{by_cases}
use Rattle.numeric.proofs.Words.{mag, side_plain, not_below}
use Rattle.numeric.proofs.Signs.{by_size}
use Rattle.float.specs.Constants.{minus_one}
use Rattle.logarithm.specs.Log.{log_of}
use Rattle.logarithm.specs.Log1p.{log1p_of}
use Rattle.inverse.specs.Asinh.{ln2}
use Rattle.logarithm_laws.proofs.Log.{least, most, log_bounded}
use Rattle.logarithm_laws.proofs.Double.{log1p_bounded}

abbrev pub Number : Float → Type 0
Number z = T (not (is_nan z))

-- ---- numbers that several bands use
abbrev pub unit : Float
unit = fin false 1 (pos 0)

-- beyond every argument of a logarithm but the largest band's
abbrev pub limit : Float
limit = fin false 1 (pos 60)

-- where the bands of acosh and asinh end: 2 and 2^26
abbrev pub two_end : Float
two_end = of_bits binary64 0x4000000000000000

abbrev pub mid_end : Float
mid_end = of_bits binary64 0x4190000000000000

-- ---- signs
pub neg_number : (z : Float) → Number z → Number (neg z)
unfolding neg is_nan
neg_number nan h = h
neg_number (inf s) h = tt
neg_number (fin s m e) h = tt

pub by_size_number : (g : Float → Float) (x : Float) → Number (g (mag x)) → Number (by_size g x)
by_size_number g x h = by_cases Number (is_sign_negative x) (neg (g (mag x))) (g (mag x)) (λ _. neg_number (g (mag x)) h) (λ _. h)

-- ---- finite operands
pub sum_number : (x y : Float) → T (finite x) → T (finite y) → Number (add binary64 x y)
sum_number x y X Y = number_above (add binary64 x y) (add binary64 x y) (add_mono binary64 x x y y X X Y Y (le_refl_f x X) (le_refl_f y Y))

pub product_number : (x y : Float) → T (finite x) → T (finite y) → T (le zero_f x) → Number (mul binary64 x y)
product_number x y X Y h = number_above (mul binary64 x y) (mul binary64 x y) (mul_mono_r binary64 x y y X Y Y (no_N x X h) (le_refl_f y Y))

-- ---- logarithms
minus_one_under : T (not (le zero_f (minus_one binary64))) × T (le (minus_one binary64) (minus_one binary64))
unfolding of_bits le
minus_one_under = (tt, tt)

-- of an argument between 0 and the limit
pub log1p_above : (z : Float) → T (fits binary64 z) → In z (mk zero_f limit) → T (finite (log1p_of z))
log1p_above z fit (h, k) =
    let i = log1p_bounded z fit (finite_between zero_f z limit tt tt h k)
    (le-lt (minus_one binary64) (minus_one binary64) z (number_above zero_f z h) minus_one_under.1
    (not_T (le z (minus_one binary64)) (λ w. le_apart zero_f z (minus_one binary64) minus_one_under.0 h w))) in
    finite_between (fin true 720 (pos 0)) (log1p_of z) (fin false 720 (pos 0)) tt tt i.0 i.1

-- of what is at least 1, and finite
ends : T (not (le unit (of_bits binary64 0))) × T (le (of_bits binary64 0) (of_bits binary64 0)) × T (le unit mid_end) × T (finite ln2)
unfolding of_bits le
ends = (tt, tt, tt, tt)

pub log_above : (z : Float) → T (finite z) → T (le unit z) → T (finite (log_of z))
log_above z Z h =
    let i = log_bounded z Z (le-lt (of_bits binary64 0) (of_bits binary64 0) z (finite_number z Z) ends.1 (not_T (le z (of_bits binary64 0)) (λ w. le_apart unit z (of_bits binary64 0) ends.0 h w))) in
    finite_between least (log_of z) most tt tt i.0 i.1

-- of an argument between 1 and the limit
pub log_inside : (z : Float) → In z (mk unit limit) → Number (log_of z)
log_inside z (h, k) = finite_number (log_of z) (log_above z (finite_between unit z limit tt tt h k) h)

-- from 2^26 on
pub large_number : (y : Float) → T (finite y) → T (le mid_end y) → Number (add binary64 (log_of y) ln2)
large_number y Y h = sum_number (log_of y) ln2 (log_above y Y (le_trans_f unit mid_end y ends.2 h)) ends.3

-- ---- a size between two tests
pub between : (y : Float) (a b : ℕ) → is_sign_negative y ≡ false → Number y → a < ones binary64 * hid binary64 → T (not (lt (mag y) (of_bits binary64 a))) → T (lt (mag y) (of_bits binary64 b)) → In y (mk (of_bits binary64 a) (of_bits binary64 b))
between y a b s n r h k = side_plain y (of_bits binary64 a) (of_bits binary64 b) s (not_below binary64 y a n r h) (lt-le (mag y) (of_bits binary64 b) k)
