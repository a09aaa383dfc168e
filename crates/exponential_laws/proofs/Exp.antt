-- What exp is, band by band, and where its values lie. Assumes nothing.
use Rattle.std.proofs.Common.{◌≡◌, ℕ, zero, suc, ◌+◌, ◌*◌, ◌^◌, ◌≤◌, true, false, cond, not, T, leb, [], ◌∷◌, ℤ, pos, negsuc, sym, refl, subst, suc-le-suc, zero-le, le_of_suc-le-suc, arith, leb→le, pow_mono}
use lib.Ieee.{Float, fin, binary64, neg, add, sub, mul, div, le, lt, is_nan, fits, of_bits, of_int, round}
use lib.Ieee.Scale.{finite}
use lib.Ieee.Positive.{positive}
use Rattle.std.specs.Float.{is_sign_negative, float_with_sign}
use Rattle.numeric.proofs.Rounding.{and_l, le_of_Le, le_trans_f, neg-le, neg-neg}
use Rattle.numeric.proofs.Operations.{mul_mono_l, mul_mono_r}
use Rattle.numeric.proofs.Cases.{agree}
use Rattle.numeric.proofs.Intervals.{mk, In, finite_between}
use Rattle.numeric.proofs.Programs.{Code, at, lit, plus, minus, times, over, bind, span, fits_in, bounded, bounded_all}
use Rattle.numeric.proofs.Order.{zero_f, number_above, le_apart, lt-le, not_lt-le, mul_nonneg}
use Rattle.numeric.proofs.Split.{around}
use Rattle.numeric.proofs.Tests.{by_cases}
use Rattle.numeric.proofs.Words.{mag, mag_in, mag_between, mag_plain, mag_turned, mag_zero, above_plain}
use Rattle.float.specs.Band.{below_bits}
use Rattle.float.specs.Constants.{one, two, plus_zero, infinity}
use Rattle.scaling.specs.Scalbn.{scalbn_of}
use Rattle.scaling.proofs.Whole.{by_power}
use Rattle.exponential.specs.Ln2.{double, equal_z, count_of, high_rest, low_rest, widest_of, Reducible}
use Rattle.exponential.specs.Exp.{p, overflow, underflow, join_of, scaled_of, reduced_of, bands_of, exp_of}
use Rattle.exponential.proofs.Special.{exp_bands}
use Rattle.reduction_laws.proofs.Counting.{from, to, Reduced, count_case, count_under}
use Rattle.reduction_laws.proofs.Double.{sizes, table}
use Rattle.exponential_laws.specs.Laws.{ExpAbove}
use Rattle.exponential_laws.proofs.Kernel.{horner_code, half_f}
use Rattle.exponential_laws.proofs.Range.{both_signs, turn_over}

abbrev two_f : Float
two_f = fin false 1 (pos 1)

-- ---- the bands
abbrev tiny_end : Float
tiny_end = of_bits binary64 0x3e30000100000000

abbrev once_end : Float
once_end = of_bits binary64 0x3fd62e4300000000

-- the value at the count k
abbrev pub scaled_at : ℤ → Float → Float
scaled_at k x = scaled_of k (high_rest double k x) (low_rest double k)

-- a property of exp's value, shown for each band
pub record Cases (Q : Float → Type 0) (x : Float) : Type 0 where
  pub highest : T (lt overflow x) → Q (infinity binary64)
  pub lowest : T (lt x underflow) → Q (plus_zero binary64)
  pub tiny : T (le (mag x) tiny_end) → Q (add binary64 (one binary64) x)
  pub plain : T (le (mag x) once_end) → Q (join_of x x (plus_zero binary64))
  pub up : (n : ℕ) → is_sign_negative x ≡ false → Reduced double sizes (pos (suc n)) x → Q (scaled_at (pos (suc n)) x)
  pub down : (j : ℕ) → is_sign_negative x ≡ true → Reduced double sizes (negsuc j) x → Q (scaled_at (negsuc j) x)

ends : T (not (is_nan overflow)) × T (not (is_nan underflow)) × T (le overflow (widest_of double)) × T (le (neg (widest_of double)) underflow)
unfolding of_bits is_nan neg le
ends = (tt, tt, tt, tt)

reduced_case : (Q : Float → Type 0) (x : Float) → T (not (is_nan x)) → Cases Q x → Reducible double x → Q (reduced_of (count_of double x) x)
reduced_case Q x n c ok =
    count_case double sizes 1075 table x ok (λ (k : ℤ). Q (reduced_of k x)) n
    (λ w. c.plain (lt-le (mag x) once_end w))
    (λ i _ s r. by_cases Q (equal_z (pos (suc i)) (pos 0)) (join_of x x (plus_zero binary64)) (scaled_at (pos (suc i)) x) (λ w. absurd (never i (leb→le (suc i) 0 (and_l (leb (suc i) 0) (leb 0 (suc i)) w)))) (λ _. c.up i s r))
    (λ j _ s r. c.down j s r)
  where
    never : (n : ℕ) → suc n ≤ 0 → ⊥
    never n h = omega arith

pub exp_cases : (Q : Float → Type 0) (x : Float) → T (fits binary64 x) → T (not (is_nan x)) → Cases Q x → Q (exp_of x)
exp_cases Q x f n c =
    let v3 = reduced_of (count_of double x) x in
    let v2 = cond (below_bits binary64 x 0x3e30000100000000) (add binary64 (one binary64) x) v3 in
    let v1 = cond (lt x underflow) (plus_zero binary64) v2 in
    subst Q (agree binary64 bands_of exp_of exp_bands x f n)
    (by_cases Q (lt overflow x) (infinity binary64) v1 c.highest
    (λ u. by_cases Q (lt x underflow) (plus_zero binary64) v2 c.lowest
    (λ d. by_cases Q (below_bits binary64 x 0x3e30000100000000) (add binary64 (one binary64) x) v3 (λ w. c.tiny (lt-le (mag x) tiny_end w))
    (λ _. reduced_case Q x n c
    (mag_between x (widest_of double) (le_trans_f (neg (widest_of double)) underflow x ends.3 (not_lt-le x underflow n ends.1 d))
    (le_trans_f x overflow (widest_of double) (not_lt-le overflow x ends.0 n u) ends.2))))))

-- ---- exp of the rest, over hi, lo and r
abbrev join_code : Code
join_code =
    bind (times (at 2) (at 2))
    (bind (minus (at 3) (times (at 0) (horner_code binary64 p 0)))
    (plus (lit (one binary64)) (plus (minus (over (times (at 4) (at 0)) (minus (lit (two binary64)) (at 0))) (at 3)) (at 2))))

join_in : (a b c d lo' hi' : Float) (r hi lo : Float) → T (fits_in (span binary64 join_code (mk a b ∷ around sizes.tail ∷ mk c d ∷ [])) lo' hi') → In hi (mk a b) → In lo (around sizes.tail) → In r (mk c d) → In (join_of r hi lo) (mk lo' hi')
join_in a b c d lo' hi' r hi lo t i j k = bounded_all binary64 join_code (hi ∷ lo ∷ r ∷ []) (mk a b ∷ around sizes.tail ∷ mk c d ∷ []) lo' hi' t (i, (j, (k, tt)))

join_ok : T (fits_in (span binary64 join_code (around sizes.head ∷ around sizes.tail ∷ around sizes.rest ∷ [])) half_f two_f)
unfolding of_bits add sub mul div neg le
join_ok = tt

plain_ok : T (fits_in (span binary64 join_code (around once_end ∷ around sizes.tail ∷ around once_end ∷ [])) half_f two_f) × T (le (neg sizes.tail) (plus_zero binary64)) × T (le (plus_zero binary64) sizes.tail)
unfolding of_bits add sub mul div neg le
plain_ok = (tt, tt, tt)

tiny_ok : T (fits_in (span binary64 (plus (lit (one binary64)) (at 0)) (around tiny_end ∷ [])) half_f two_f)
unfolding of_bits add neg le
tiny_ok = tt

tiny_in : (x : Float) → T (le (mag x) tiny_end) → In (add binary64 (one binary64) x) (mk half_f two_f)
tiny_in x h = let i = mag_in x tiny_end h in bounded binary64 (plus (lit (one binary64)) (at 0)) (neg tiny_end) tiny_end half_f two_f x tiny_ok i.0 i.1

plain_in : (x : Float) → T (le (mag x) once_end) → In (join_of x x (plus_zero binary64)) (mk half_f two_f)
plain_in x h =
    let i = mag_in x once_end h in
    join_in (neg once_end) once_end (neg once_end) once_end half_f two_f x x (plus_zero binary64) plain_ok.0 i (plain_ok.1, plain_ok.2) i

-- ---- powers of two rise
power_plain : (k : ℤ) → T (le zero_f (fin false 1 k))
power_plain k = unfold float_with_sign in mag_zero (fin false 1 k) (unfold is_nan in tt)

power_up : (a b : ℕ) → a ≤ b → T (le (fin false 1 (pos a)) (fin false 1 (pos b)))
power_up a b h = le_of_Le (fin false 1 (pos a)) (fin false 1 (pos b)) tt tt (ones (2 ^ a) (2 ^ b) (pow_mono h))
  where
    ones : (u v : ℕ) → u ≤ v → 1 * u * 1 + 0 * 1 ≤ 1 * v * 1 + 0 * 1
    ones u v h = omega arith

power_down : (a b : ℕ) → b ≤ a → T (le (fin false 1 (negsuc a)) (fin false 1 (negsuc b)))
power_down a b h = le_of_Le (fin false 1 (negsuc a)) (fin false 1 (negsuc b)) tt tt (ones (2 ^ suc b) (2 ^ suc a) (pow_mono (suc-le-suc h)))
  where
    ones : (u v : ℕ) → u ≤ v → 1 * 1 * u + 0 * v ≤ 1 * 1 * v + 0 * u
    ones u v h = omega arith

-- a value from a on, scaled by at least 2^i, is at least a 2^i
scaled_from : (a y : Float) (i k : ℤ) → T (finite a) → T (finite y) → T (le zero_f a) → T (le a y) → T (le (fin false 1 i) (fin false 1 k)) → T (le (mul binary64 a (fin false 1 i)) (scalbn_of binary64 y k))
scaled_from a y i k A Y z h l =
    let b = fin false 1 k in
    subst (λ (w : Float). T (le (mul binary64 a (fin false 1 i)) w)) (by_power binary64 y k)
    (le_trans_f (mul binary64 a (fin false 1 i)) (mul binary64 a b) (mul binary64 y b) (mul_mono_r binary64 a (fin false 1 i) b A tt tt (Rattle.numeric.proofs.Order.no_N a A z) l) (mul_mono_l binary64 a y b A Y tt refl h))

joined : (k : ℤ) (x : Float) → Reduced double sizes k x → In (join_of (sub binary64 (high_rest double k x) (low_rest double k)) (high_rest double k x) (low_rest double k)) (mk half_f two_f)
joined k x r =
    let hi = high_rest double k x in
    let lo = low_rest double k in
    join_in (neg sizes.head) sizes.head (neg sizes.rest) sizes.rest half_f two_f (sub binary64 hi lo) hi lo join_ok r.parts.head r.parts.tail r.parts.rest

-- at a count of at least i the value is at least 2^i / 2
count_from : (i k : ℤ) (x : Float) → Reduced double sizes k x → T (le (fin false 1 i) (fin false 1 k)) → T (le (mul binary64 half_f (fin false 1 i)) (scaled_at k x))
count_from i k x r l =
    let hi = high_rest double k x in
    let lo = low_rest double k in
    let y = join_of (sub binary64 hi lo) hi lo in
    let j = joined k x r in
    scaled_from half_f y i k tt (finite_between half_f y two_f tt tt j.0 j.1) (unfold le in tt) j.0 l

-- ---- at least zero
closed : T (le zero_f (infinity binary64)) × T (le zero_f (plus_zero binary64)) × T (le zero_f half_f)
unfolding of_bits le
closed = (tt, tt, tt)

scaled_above : (k : ℤ) (x : Float) → Reduced double sizes k x → T (le zero_f (scaled_at k x))
scaled_above k x r =
    let hi = high_rest double k x in
    let lo = low_rest double k in
    let y = join_of (sub binary64 hi lo) hi lo in
    let j = joined k x r in
    subst (λ (w : Float). T (le zero_f w)) (by_power binary64 y k)
    (mul_nonneg binary64 y (fin false 1 k) (finite_between half_f y two_f tt tt j.0 j.1) tt (le_trans_f zero_f half_f y closed.2 j.0) (power_plain k))

above_cases : (x : Float) → Cases (λ (y : Float). T (le zero_f y)) x
above_cases x =
    record {
      highest = λ _. closed.0;
      lowest = λ _. closed.1;
      tiny = λ h. le_trans_f zero_f half_f (add binary64 (one binary64) x) closed.2 (tiny_in x h).0;
      plain = λ h. le_trans_f zero_f half_f (join_of x x (plus_zero binary64)) closed.2 (plain_in x h).0;
      up = λ n _ r. scaled_above (pos (suc n)) x r;
      down = λ j _ r. scaled_above (negsuc j) x r;
    }

zero_is : plus_zero binary64 ≡ zero_f
unfolding of_bits
zero_is = refl

pub exp_from_zero : (x : Float) → T (fits binary64 x) → T (not (is_nan x)) → T (le zero_f (exp_of x))
exp_from_zero x f n = exp_cases (λ (y : Float). T (le zero_f y)) x f n (above_cases x)

pub exp_above : ExpAbove
exp_above x (f, n) = let h = exp_from_zero x f n in (number_above zero_f (exp_of x) h, subst (λ (y : Float). T (le y (exp_of x))) (sym zero_is) h)

-- ---- from 0.693145 on, just below ln 2, at least 31/16
abbrev pub middle : Float
middle = of_bits binary64 0x3fe62e4200000000

abbrev pub near_two : Float
near_two = fin false 31 (negsuc 3)

abbrev head_1 : Code
head_1 = minus (at 0) (lit (mul binary64 (of_int binary64 (pos 1)) (of_bits binary64 double.high)))

abbrev rest_1 : Code
rest_1 = minus head_1 (lit (low_rest double (pos 1)))

-- -2^-16 and 31/32
abbrev little : Float
little = fin true 1 (negsuc 15)

abbrev near_one : Float
near_one = fin false 31 (negsuc 4)

middle_ok : T (fits_in (span binary64 head_1 (mk middle two_f ∷ [])) little two_f) × T (fits_in (span binary64 rest_1 (mk middle two_f ∷ [])) little two_f) × T (fits_in (span binary64 join_code (mk little sizes.head ∷ around sizes.tail ∷ mk little sizes.rest ∷ [])) near_one two_f)
unfolding of_bits of_int round add sub mul div neg le
middle_ok = (tt, tt, tt)

middle_ends : T (le near_two (infinity binary64)) × T (not (le middle underflow)) × T (not (le middle tiny_end)) × T (not (le middle once_end)) × T (le (to double 1) two_f) × T (positive middle) × T (le near_two (mul binary64 half_f (fin false 1 (pos 2)))) × T (le near_two (mul binary64 near_one (fin false 1 (pos 1))))
unfolding of_bits round mul le
middle_ends = (tt, tt, tt, tt, tt, tt, tt, tt)

once_from : (x : Float) → T (le middle x) → Reduced double sizes (pos 1) x → T (le near_two (scaled_at (pos 1) x))
once_from x h r =
    let hi = high_rest double (pos 1) x in
    let lo = low_rest double (pos 1) in
    let y = join_of (sub binary64 hi lo) hi lo in
    let k = le_trans_f x (to double 1) two_f r.near.1 middle_ends.4 in
    let a = bounded binary64 head_1 middle two_f little two_f x middle_ok.0 h k in
    let b = bounded binary64 rest_1 middle two_f little two_f x middle_ok.1 h k in
    let j = join_in little sizes.head little sizes.rest near_one two_f (sub binary64 hi lo) hi lo middle_ok.2 (a.0, r.parts.head.1) r.parts.tail (b.0, r.parts.rest.1) in
    le_trans_f near_two (mul binary64 near_one (fin false 1 (pos 1))) (scaled_at (pos 1) x) middle_ends.7
    (scaled_from near_one y (pos 1) (pos 1) tt (finite_between near_one y two_f tt tt j.0 j.1) (unfold le in tt) j.0 (power_up 1 1 (suc-le-suc zero-le)))

pub exp_middle : (x : Float) → T (fits binary64 x) → T (not (is_nan x)) → T (le middle x) → T (le near_two (exp_of x))
exp_middle x f n h =
    exp_cases (λ (y : Float). T (le near_two y)) x f n
    (record {
      highest = λ _. middle_ends.0;
      lowest = λ w. absurd (le_apart middle x underflow middle_ends.1 h (lt-le x underflow w));
      tiny = λ w. absurd (le_apart middle x tiny_end middle_ends.2 h (plain tiny_end w));
      plain = λ w. absurd (le_apart middle x once_end middle_ends.3 h (plain once_end w));
      up = λ i _ r. counted i r;
      down = λ _ v _. both_signs x s v;
    })
  where
    s : is_sign_negative x ≡ false
    s = above_plain middle x middle_ends.5 h

    plain : (b : Float) → T (le (mag x) b) → T (le x b)
    plain b w = subst (λ (y : Float). T (le y b)) (mag_plain x s) w

    counted : (i : ℕ) → Reduced double sizes (pos (suc i)) x → T (le near_two (scaled_at (pos (suc i)) x))
    counted zero r = once_from x h r
    counted (suc i) r =
        le_trans_f near_two (mul binary64 half_f (fin false 1 (pos 2))) (scaled_at (pos (suc (suc i))) x) middle_ends.6
        (count_from (pos 2) (pos (suc (suc i))) x r (power_up 2 (suc (suc i)) (suc-le-suc (suc-le-suc zero-le))))

-- ---- from -708 on at least 2^-1023
abbrev pub far_down : Float
far_down = fin true 177 (pos 2)

abbrev pub least : Float
least = fin false 1 (negsuc 1022)

least_ends : T (le least (infinity binary64)) × T (not (le far_down underflow)) × T (le least half_f) × T (not (le (from double 1023) (neg far_down))) × T (le least (mul binary64 half_f (fin false 1 (pos 1)))) × T (le least (mul binary64 half_f (fin false 1 (negsuc 1021))))
unfolding of_bits round mul neg le
least_ends = (tt, tt, tt, tt, tt, tt)

pub exp_positive : (x : Float) → T (fits binary64 x) → T (not (is_nan x)) → T (le far_down x) → T (le least (exp_of x))
exp_positive x f n h =
    exp_cases (λ (y : Float). T (le least y)) x f n
    (record {
      highest = λ _. least_ends.0;
      lowest = λ w. absurd (le_apart far_down x underflow least_ends.1 h (lt-le x underflow w));
      tiny = λ w. le_trans_f least half_f (add binary64 (one binary64) x) least_ends.2 (tiny_in x w).0;
      plain = λ w. le_trans_f least half_f (join_of x x (plus_zero binary64)) least_ends.2 (plain_in x w).0;
      up = λ i _ r. le_trans_f least (mul binary64 half_f (fin false 1 (pos 1))) (scaled_at (pos (suc i)) x) least_ends.4 (count_from (pos 1) (pos (suc i)) x r (power_up 1 (suc i) (suc-le-suc zero-le)));
      down = λ j s r. le_trans_f least (mul binary64 half_f (fin false 1 (negsuc 1021))) (scaled_at (negsuc j) x) least_ends.5 (count_from (negsuc 1021) (negsuc j) x r (power_down 1021 j (few j s r)));
    })
  where
    few : (j : ℕ) → is_sign_negative x ≡ true → Reduced double sizes (negsuc j) x → j ≤ 1021
    few j s r =
        le_of_suc-le-suc
        (count_under double 1022 (suc j) (mag x) (neg far_down) least_ends.3 (turn_over x (from double (suc j)) r.near.1 s)
        (subst (λ (y : Float). T (le y (neg far_down))) (neg-neg (mag x)) (neg-le far_down (neg (mag x)) (subst (λ (y : Float). T (le far_down y)) (sym (mag_turned x s)) h))))
