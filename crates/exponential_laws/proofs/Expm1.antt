-- The laws of expm1 for an f64, and what the functions above it need: the values of small arguments. Assumes nothing.
use Rattle.std.proofs.Common.{◌≡◌, ℕ, zero, suc, ◌≤◌, Bool, true, false, not, T, [], ◌∷◌, pos, negsuc, sym, refl, subst, inl, inr, arith}
use lib.Ieee.{Float, fin, binary64, neg, add, sub, mul, div, le, is_nan, fits, of_bits, of_int, round}
use lib.Ieee.Scale.{finite}
use Rattle.std.specs.Float.{is_sign_negative}
use Rattle.numeric.proofs.Rounding.{le_trans_f}
use Rattle.numeric.proofs.Intervals.{mk, In, finite_between}
use Rattle.numeric.proofs.Programs.{Code, at, lit, plus, minus, times, bind, span, fits_in, bounded, bounded_all}
use Rattle.numeric.proofs.Order.{zero_f, total, number_above, le_apart, lt-le}
use Rattle.numeric.proofs.Split.{around}
use Rattle.numeric.proofs.Words.{mag, mag_plain, mag_zero, side_plain, side_turned}
use Rattle.float.specs.Band.{below_bits}
use Rattle.float.specs.Constants.{one, minus_one, plus_zero}
use Rattle.scaling.specs.Scalbn.{scalbn_of}
use Rattle.scaling.proofs.Whole.{by_power}
use Rattle.exponential.specs.Ln2.{high_rest, low_rest}
use Rattle.exponential.specs.Ln2 as Ln2
use Rattle.exponential.specs.Expm1.{double, unscaled, corrected_of, halved, doubled, unit, expm1_of}
use Rattle.reduction_laws.proofs.Counting.{from, Reduced}
use Rattle.reduction_laws.proofs.Double.{sizes}
use Rattle.exponential_laws.specs.Laws.{Expm1Above, Expm1Rises, Expm1Finite}
use Rattle.exponential_laws.proofs.Kernel.{half_f, minus_half_lem, low_f, high_f, corrected_code, pieces, plain_up_in, halved_in, doubled_in}
use Rattle.exponential_laws.proofs.Ladder.{Up, largest, less_code, rebuilt_last_by}
use Rattle.exponential_laws.proofs.Cases.{tiny_of, once_of, far_of, overflow_of, rebuilt_at}
use Rattle.exponential_laws.proofs.Range.{both_signs, by_bands, up_cases, up_count, down_count, plain_low, above, rises, zero_or_plain}
use Rattle.exponential_laws.proofs.Double.{computed}

-- the rest and the correction of x less k times ln 2
abbrev rest_at : lib.IntN.ℤ → Float → Float
rest_at k x = sub binary64 (high_rest Ln2.double k x) (low_rest Ln2.double k)

abbrev waste_at : lib.IntN.ℤ → Float → Float
waste_at k x = sub binary64 (sub binary64 (high_rest Ln2.double k x) (rest_at k x)) (low_rest Ln2.double k)

abbrev rest_code : lib.IntN.ℤ → Code
rest_code k = minus (minus (at 0) (lit (mul binary64 (of_int binary64 k) (of_bits binary64 (Ln2.double).high)))) (lit (low_rest Ln2.double k))

-- ---- the sum at the last count: where the rest is below -0.00048 it is below 1. The error term is of second order, so the rest is taken in three steps
abbrev sum_code : Code
sum_code = bind (corrected_code double) (plus (minus (at 1) (at 0)) (lit (one binary64)))

abbrev rest_top : Float
rest_top = of_bits binary64 0xbf3f75104d551d69

abbrev sum_ceiling : Float
sum_ceiling = of_bits binary64 0x3fefffeb074a771d

abbrev step_1 : Float
step_1 = fin true 1 (negsuc 3)

abbrev step_2 : Float
step_2 = of_bits binary64 0xbf60624dd2f1a9fc

abbrev sum_fits : Float → Float → Bool
sum_fits a b = fits_in (span binary64 sum_code (mk a b ∷ around sizes.correction ∷ [])) low_f sum_ceiling

sums_ok : T (sum_fits (neg sizes.rest) step_1) × T (sum_fits step_1 step_2) × T (sum_fits step_2 rest_top)
unfolding of_bits add sub mul div neg le
sums_ok = (tt, tt, tt)

steps_finite : T (finite (neg sizes.rest)) × T (finite step_2)
unfolding of_bits neg
steps_finite = (tt, tt)

abbrev Sum : Float → Float → Float
Sum r w = add binary64 (sub binary64 r (corrected_of double r w)) (one binary64)

sum_in : (a b r w : Float) → T (sum_fits a b) → In w (around sizes.correction) → T (le a r) → T (le r b) → In (Sum r w) (mk low_f sum_ceiling)
sum_in a b r w t h k l = bounded_all binary64 sum_code (r ∷ w ∷ []) (mk a b ∷ around sizes.correction ∷ []) low_f sum_ceiling t ((k, l), (h, tt))

top_in : (r w : Float) → In r (around sizes.rest) → In w (around sizes.correction) → T (le r rest_top) → In (Sum r w) (mk low_f sum_ceiling)
top_in r w i j h =
    let R = finite_between (neg sizes.rest) r sizes.rest steps_finite.0 tt i.0 i.1 in
    elim (total r step_1 R tt) [
      | inl k ↦ sum_in (neg sizes.rest) step_1 r w sums_ok.0 j i.0 k
      | inr k ↦ elim (total r step_2 R steps_finite.1) [
        | inl l ↦ sum_in step_1 step_2 r w sums_ok.1 j k l
        | inr l ↦ sum_in step_2 rest_top r w sums_ok.2 j l h
      ]
    ]

-- ---- below 709.78
abbrev pub ceiling : Float
ceiling = of_bits binary64 0x40862e4200000000

ceiling_under : T (not (le (overflow_of double) ceiling))
unfolding le of_bits
ceiling_under = tt

rest_ok : T (fits_in (span binary64 (rest_code (pos 1024)) (mk zero_f ceiling ∷ [])) (fin true 1 (pos 10)) rest_top)
unfolding of_bits of_int round add sub mul neg le
rest_ok = tt

last_ok : T (fits_in (span binary64 (less_code double (pos 1024)) (mk low_f sum_ceiling ∷ [])) zero_f (largest binary64))
unfolding of_bits add sub mul neg le
last_ok = tt

pub finite_below : (x : Float) → T (fits binary64 x) → T (not (is_nan x)) → is_sign_negative x ≡ false → T (le x ceiling) → Up binary64 (expm1_of x)
unfolding expm1_of
finite_below x p i s h =
    by_bands double sizes 1075 1023 computed (Up binary64) x p i
    (up_cases double sizes 1075 1023 computed (Up binary64) x i s (λ y u. u) last (λ v. absurd (le_apart (overflow_of double) x ceiling ceiling_under (lt-le (overflow_of double) x v) h)))
  where
    last : Reduced Ln2.double sizes (pos 1024) x → Up binary64 (rebuilt_at double (pos 1024) x)
    last r =
        let k = pos 1024 in
        let b = bounded binary64 (rest_code k) zero_f ceiling (fin true 1 (pos 10)) rest_top x rest_ok (subst (λ (y : Float). T (le zero_f y)) (mag_plain x s) (mag_zero x i)) h in
        let v = top_in (rest_at k x) (waste_at k x) r.parts.rest r.parts.correction b.1 in
        rebuilt_last_by double sizes 1023 computed.kernel computed.ladder (high_rest Ln2.double k x) (low_rest Ln2.double k) r.parts (Up binary64)
        (subst (λ (y : Float). Up binary64 (sub binary64 y (one binary64))) (by_power binary64 (Sum (rest_at k x) (waste_at k x)) k)
        (bounded binary64 (less_code double k) low_f sum_ceiling zero_f (largest binary64) (Sum (rest_at k x) (waste_at k x)) last_ok v.0 v.1))

-- ---- a little above zero, up to 1.0986: the count is 0, 1 or 2
abbrev pub small_end : Float
small_end = of_bits binary64 0x3ff193eb00000000

abbrev pub one_f : Float
one_f = fin false 1 (pos 0)

abbrev pub nine_fourths : Float
nine_fourths = fin false 9 (negsuc 1)

small_ends : T (not (le (from Ln2.double 3) small_end)) × T (not (le (overflow_of double) small_end)) × T (le (tiny_of double) half_f)
unfolding le of_bits round
small_ends = (tt, tt, tt)

-- the count 2 with a rest below -0.2875
abbrev two_top : Float
two_top = of_bits binary64 0xbfd2666666666666

abbrev two_code : Code
two_code = bind (corrected_code double) (times (plus (minus (at 1) (at 0)) (minus (lit (one binary64)) (lit (unit double (pos 2))))) (lit (fin false 1 (pos 2))))

two_ok : T (fits_in (span binary64 two_code (mk (neg sizes.rest) two_top ∷ around sizes.correction ∷ [])) one_f nine_fourths)
unfolding of_bits add sub mul div neg le round scalbn_of
two_ok = tt

rest_two_ok : T (fits_in (span binary64 (rest_code (pos 2)) (mk zero_f small_end ∷ [])) (fin true 1 (pos 1)) two_top)
unfolding of_bits of_int round add sub mul neg le
rest_two_ok = tt

pub small_cases : (Q : Float → Type 0) (x : Float) → T (fits binary64 x) → T (not (is_nan x)) → is_sign_negative x ≡ false → T (le x small_end)
    → ((y : Float) → In y (mk zero_f half_f) → Q y) → ((y : Float) → In y (mk low_f high_f) → Q y) → ((y : Float) → In y (mk one_f nine_fourths) → Q y) → Q (expm1_of x)
unfolding expm1_of
small_cases Q x p i s h none once twice =
    by_bands double sizes 1075 1023 computed Q x p i
    (record {
      tiny = λ v. none x (side_plain x zero_f half_f s (mag_zero x i) (le_trans_f (mag x) (tiny_of double) half_f v small_ends.2));
      plain = λ v. none (unscaled double x) (plain_up_in double sizes computed.kernel x (side_plain x zero_f (once_of double) s (mag_zero x i) v.1));
      up = λ n _ _ r. counted n (up_count double sizes 1075 1023 computed 2 n x small_end small_ends.0 h r) r;
      down = λ _ v _ _. both_signs x s v;
      lowest = λ v _. both_signs x s v;
      highest = λ _ v. absurd (le_apart (overflow_of double) x small_end small_ends.1 (lt-le (overflow_of double) x v) h);
    })
  where
    counted : (n : ℕ) → suc n ≤ 2 → Reduced Ln2.double sizes (pos (suc n)) x → Q (rebuilt_at double (pos (suc n)) x)
    counted zero l r =
        let k = pos 1 in
        let e = corrected_of double (rest_at k x) (waste_at k x) in
        once (doubled double (rest_at k x) e) (doubled_in double sizes computed.kernel (rest_at k x) e (pieces double sizes computed.kernel (rest_at k x) (waste_at k x) r.parts.rest r.parts.correction))
    counted (suc zero) l r =
        let k = pos 2 in
        let e = corrected_of double (rest_at k x) (waste_at k x) in
        let m = add binary64 (sub binary64 (rest_at k x) e) (sub binary64 (one binary64) (unit double k)) in
        let b = bounded binary64 (rest_code k) zero_f small_end (fin true 1 (pos 1)) two_top x rest_two_ok (subst (λ (y : Float). T (le zero_f y)) (mag_plain x s) (mag_zero x i)) h in
        let v : In (mul binary64 m (fin false 1 k)) (mk one_f nine_fourths) = bounded_all binary64 two_code (rest_at k x ∷ waste_at k x ∷ []) (mk (neg sizes.rest) two_top ∷ around sizes.correction ∷ []) one_f nine_fourths two_ok ((r.parts.rest.0, b.1), (r.parts.correction, tt)) in
        twice (scalbn_of binary64 m k) (subst (λ (y : Float). In y (mk one_f nine_fourths)) (by_power binary64 m k) v)
    counted (suc (suc n)) l r = absurd (over n l)
      where
        over : (n : ℕ) → suc (suc (suc n)) ≤ 2 → ⊥
        over n h = omega arith

pub small_in : (x : Float) → T (fits binary64 x) → T (not (is_nan x)) → is_sign_negative x ≡ false → T (le x small_end) → In (expm1_of x) (mk zero_f nine_fourths)
small_in x p i s h =
    small_cases (λ (y : Float). In y (mk zero_f nine_fourths)) x p i s h
    (λ y v. (v.0, le_trans_f y half_f nine_fourths v.1 (unfold le in tt)))
    (λ y v. (le_trans_f zero_f low_f y (unfold le in tt) v.0, le_trans_f y high_f nine_fourths v.1 (unfold le in tt)))
    (λ y v. (le_trans_f zero_f one_f y (unfold le in tt) v.0, v.1))

-- ---- a little below zero: from -5/8 on the value is at least -3/4
abbrev pub Gentle : Float → Type 0
Gentle y = In y (mk (fin true 3 (negsuc 1)) half_f)

gentle_ends : T (le (fin true 3 (negsuc 1)) (neg (tiny_of double))) × T (le (fin true 3 (negsuc 1)) minus_half_lem) × T (le (fin true 1 (negsuc 1)) half_f) × T (not (le (from Ln2.double 2) (fin false 5 (negsuc 2)))) × T (not (le (far_of double) (fin false 5 (negsuc 2)))) × T (le (neg zero_f) half_f)
unfolding neg le of_bits round
gentle_ends = (tt, tt, tt, tt, tt, tt)

pub gentle_below : (x : Float) → T (fits binary64 x) → T (not (is_nan x)) → is_sign_negative x ≡ true → T (le (mag x) (fin false 5 (negsuc 2))) → Gentle (expm1_of x)
unfolding expm1_of
gentle_below x p i s h =
    by_bands double sizes 1075 1023 computed Gentle x p i
    (record {
      tiny = λ v. (let w = side_turned x zero_f (tiny_of double) s (mag_zero x i) v in (le_trans_f (fin true 3 (negsuc 1)) (neg (tiny_of double)) x gentle_ends.0 w.0, le_trans_f x (neg zero_f) half_f w.1 gentle_ends.5));
      plain = λ v. (let w = plain_low double sizes 1075 1023 computed x v.1 in (le_trans_f (fin true 3 (negsuc 1)) minus_half_lem (unscaled double x) gentle_ends.1 w.0, w.1));
      up = λ _ v _ _. both_signs x v s;
      down = λ j _ _ r. counted j (down_count double sizes 1075 1023 computed 1 j x (fin false 5 (negsuc 2)) gentle_ends.3 h s r) r;
      lowest = λ _ v. absurd (le_apart (far_of double) (mag x) (fin false 5 (negsuc 2)) gentle_ends.4 v h);
      highest = λ v _. both_signs x v s;
    })
  where
    counted : (j : ℕ) → suc j ≤ 1 → Reduced Ln2.double sizes (negsuc j) x → Gentle (rebuilt_at double (negsuc j) x)
    counted zero l r =
        let k = negsuc 0 in
        let e = corrected_of double (rest_at k x) (waste_at k x) in
        let d = halved_in double sizes computed.kernel (rest_at k x) e (pieces double sizes computed.kernel (rest_at k x) (waste_at k x) r.parts.rest r.parts.correction) in
        (d.0, le_trans_f (halved double (rest_at k x) e) (fin true 1 (negsuc 1)) half_f d.1 gentle_ends.2)
    counted (suc j) l r = absurd (over j l)
      where
        over : (j : ℕ) → suc (suc j) ≤ 1 → ⊥
        over j h = omega arith

-- ---- the laws
pub expm1_above : Expm1Above
unfolding expm1_of
expm1_above x (p, i) = let h = above double sizes 1075 1023 computed x p i in (number_above (of_bits binary64 0xbff0000000000000) (expm1_of x) h, h)

zero_is : plus_zero binary64 ≡ zero_f
unfolding of_bits
zero_is = refl

pub expm1_rises : Expm1Rises
unfolding expm1_of
expm1_rises x p h =
    let v = rises double sizes 1075 1023 computed x p (subst (λ (y : Float). T (le y x)) zero_is h) in
    (number_above zero_f (expm1_of x) v, subst (λ (y : Float). T (le y (expm1_of x))) (sym zero_is) v)

largest_finite : T (finite (largest binary64))
unfolding of_bits
largest_finite = tt

pub expm1_finite : Expm1Finite
expm1_finite x p h b =
    zero_or_plain (λ (y : Float). T (fits binary64 y) → T (le zero_f y) → T (below_bits binary64 y 0x40862e4200000000) → T (finite (expm1_of y))) x (subst (λ (y : Float). T (le y x)) zero_is h)
    (λ e _ _ _. (unfold expm1_of in tt))
    (λ s q l w. (let u = finite_below x q (number_above zero_f x l) s (subst (λ (y : Float). T (le y ceiling)) (mag_plain x s) (lt-le (mag x) ceiling w)) in finite_between zero_f (expm1_of x) (largest binary64) tt largest_finite u.0 u.1))
    p (subst (λ (y : Float). T (le y x)) zero_is h) b

pub minus_one_is : neg (one binary64) ≡ minus_one binary64
unfolding neg of_bits
minus_one_is = refl
