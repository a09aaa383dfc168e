-- Where log1p's values lie: band by band, over the table of a format. Assumes nothing.
use Rattle.std.proofs.Common.{◌≡◌, ℕ, zero, suc, ◌+◌, ◌-◌, ◌*◌, ◌/◌, ◌%◌, ◌<◌, ◌≤◌, Bool, true, false, cond, not, ◌&&◌, T, ltb, List, [], ◌∷◌, ℤ, pos, negsuc, refl, ◌∙◌, subst, inl, inr, lt_of_lt_of_le, lt_of_le_of_lt, le_of_lt, mul-le-mul_right, mod-lt, suc-mul, div-lt_iff_lt-mul, mul-lt-mul_of_pos_right, div-add-mod', le-div_iff_mul-le, arith, ltb→lt, nltb→le, T_not, pow_pos}
use Rattle.std.specs.Prelude.{int_le, int_lt}
use Rattle.std.proofs.lemmas.Int.{ints}
use lib.Dec.{not_T}
use lib.Ieee.{Float, nan, inf, fin, Format, binary32, binary64, prec, emax, hid, ones, top, fits, of_bits, to_bits, neg, add, sub, div, le, lt, eq, is_nan}
use lib.Ieee.Fits.{add-fits}
use lib.Ieee.Positive.{positive}
use lib.Ieee.Scale.{finite}
use Rattle.std.specs.Float.{is_sign_negative, float_with_sign}
use Rattle.numeric.proofs.Rounding.{and_l, and_r, le_trans_f, neg-le, or_split, or_r}
use Rattle.numeric.proofs.Operations.{add_mono}
use Rattle.numeric.proofs.Intervals.{Itv, mk, In}
use Rattle.numeric.proofs.Programs.{Code, at, lit, minus, over, span, fits_in, bounded_all, le_refl_f}
use Rattle.numeric.proofs.Order.{zero_f, le_self, number_above, finite_number, lt-le, lt_not_le, le-lt, le_apart, under_by}
use Rattle.numeric.proofs.Tests.{by_cases, is_on, is_off, on, off, every, every_at}
use Rattle.numeric.proofs.Words.{mag, mag_plain, mag_turned, mag_zero, mag_in, mag_under, mag_over, mag_number, bits_is, above_plain, side_plain}
use Rattle.float.specs.Band.{below_bits}
use Rattle.float.specs.Constants.{one, minus_one, plus_zero, minus_infinity, not_a_number}
use Rattle.logarithm.specs.Kernel.{exponent_of, significand_of}
use Rattle.logarithm.specs.Log1p.{Log1p, lost_of, correction_of, sum_of, cut_of, near_of, bands_of, value_of}
use Rattle.logarithm_laws.proofs.Whole.{Between, zero_under}
use Rattle.logarithm_laws.proofs.Cutting.{Cuts, f_low, f_high, fraction_in, exponent_in, pattern_under}
use Rattle.logarithm_laws.proofs.Kernel.{Cs, mended_code, mended_in}

-- ---- the number 1
-- the largest value below 1
abbrev pub below_one : Format → Float
below_one f = of_bits f (emax f * hid f - 1)

one_is : (f : Format) → one f ≡ of_bits f (emax f * hid f)
one_is binary32 = refl
one_is binary64 = refl

one_finite : (f : Format) → T (finite (one f))
unfolding of_bits
one_finite binary32 = tt
one_finite binary64 = tt

pub minus_one_is : (f : Format) → neg (one f) ≡ minus_one f
unfolding of_bits neg
minus_one_is binary32 = refl
minus_one_is binary64 = refl

around_zero : (f : Format) → T (le (neg (below_one f)) zero_f)
unfolding of_bits neg le
around_zero binary32 = tt
around_zero binary64 = tt

no_infinite : (f : Format) → T (le (minus_one f) (inf true)) → ⊥
unfolding le of_bits
no_infinite binary32 h = h
no_infinite binary64 h = h

eq-le : (x y : Float) → T (eq x y) → T (le x y)
unfolding le
eq-le x y h = or_r (lt x y) (eq x y) h

pub under_one : (f : Format) (x : Float) → T (fits f x) → T (not (is_nan x)) → T (lt (mag x) (one f)) → T (le (mag x) (below_one f))
under_one f x h n k =
    let b = emax f * hid f in
    let r : b < ones f * hid f = mul-lt-mul_of_pos_right (more (emax f)) (pow_pos (prec f - 1)) in
    let l : to_bits f x % top f < b = ltb→lt (to_bits f x % top f) b (on (ltb (to_bits f x % top f) b) (bits_is f x b h r ∙ is_on (lt (mag x) (of_bits f b)) (subst (λ (z : Float). T (lt (mag x) z)) (one_is f) k))) in
    mag_under f x (b - 1) h n (last (to_bits f x % top f) b l) (inside b (ones f * hid f) r)
  where
    more : (e : ℕ) → e < 2 * e + 1
    more e = omega arith

    last : (a b : ℕ) → a < b → a ≤ b - 1
    last a b h = omega arith

    inside : (b c : ℕ) → b < c → b - 1 < c
    inside b c h = omega arith

-- what is above -1 is no less than the value next to it
pub from_minus_one : (f : Format) (x : Float) → T (fits f x) → T (not (is_nan x)) → T (not (le x (minus_one f))) → T (le (neg (below_one f)) x)
from_minus_one f x h n k = go (is_sign_negative x) refl
  where
    less : is_sign_negative x ≡ true → T (not (le (one f) (mag x)))
    less s = not_T (le (one f) (mag x)) (λ w. T_not (le x (minus_one f)) k (subst (λ (z : Float). T (le z (minus_one f))) (mag_turned x s) (subst (λ (z : Float). T (le (neg (mag x)) z)) (minus_one_is f) (neg-le (one f) (mag x) w))))

    size : T (le (mag x) (mag x))
    size = le_self (mag x) (mag_number x n)

    go : (s : Bool) → is_sign_negative x ≡ s → T (le (neg (below_one f)) x)
    go true s =
        subst (λ (z : Float). T (le (neg (below_one f)) z)) (mag_turned x s)
        (neg-le (mag x) (below_one f) (under_one f x h n (le-lt (mag x) (mag x) (one f) (finite_number (one f) (one_finite f)) size (less s))))
    go false s = le_trans_f (neg (below_one f)) zero_f x (around_zero f) (subst (λ (z : Float). T (le zero_f z)) (mag_plain x s) (mag_zero x n))

-- ---- the table
-- the correction: wider than it is
abbrev c_low : Float
c_low = fin true 1 (pos 3)

abbrev c_high : Float
c_high = fin false 1 (pos 3)

abbrev count : ℤ → ℕ
count (pos n) = n
count (negsuc n) = 0

count_lt : (k e : ℤ) → T (int_lt k e) → T (int_lt k (pos (count e)))
count_lt k (pos n) h = h
count_lt (pos a) (negsuc b) h = absurd h
count_lt (negsuc a) (negsuc b) h = tt

-- the result lies between -n and n
module _ (p : Log1p) (n : ℕ) where
  abbrev F : Format
  F = p.log.format

  abbrev pub least : Float
  least = fin true n (pos 0)

  abbrev pub most : Float
  most = fin false n (pos 0)

  -- ---- the correction where u = 1 + x has the exponent's field q: then u lies between two powers of 2, and x between half and twice these, less 1
  abbrev edge : ℕ → Float
  edge q = of_bits F (q * hid F)

  abbrev x_low : ℕ → Float
  x_low q = sub F (edge (q - 1)) (one F)

  abbrev x_high : ℕ → Float
  x_high q = sub F (edge (q + 2)) (one F)

  abbrev Us : ℕ → List Itv
  Us q = mk (x_low q) (x_high q) ∷ mk (edge q) (edge (suc q)) ∷ []

  -- over x and u, by either formula
  abbrev large_code : Code
  large_code = over (minus (lit (one F)) (minus (at 1) (at 0))) (at 1)

  abbrev small_code : Code
  small_code = over (minus (at 0) (minus (at 1) (lit (one F)))) (at 1)

  abbrev ends : ℕ → Bool
  ends q = finite (x_low q) && (finite (x_high q) && (not (le (edge q) (add F (one F) (x_low q))) && not (le (add F (one F) (x_high q)) (edge (suc q)))))

  abbrev quotients : ℕ → Bool
  quotients q = fits_in (span F large_code (Us q)) c_low c_high && fits_in (span F small_code (Us q)) c_low c_high

  abbrev mends : ℕ → Bool
  mends q = ends q && quotients q

  -- the field of the least u, 2^-prec, how many fields there are from it up to where the correction is zero, and the pattern there
  abbrev first : ℕ
  first = emax F - prec F

  abbrev fields : ℕ
  fields = prec F + count p.exact

  abbrev end : ℕ
  end = (emax F + count p.exact) * hid F

  -- the table's constants are of the right size
  pub record Sizes : Type 0 where
    pub cuts : Cuts p.log
    pub tiny : T (le (of_bits F p.tiny) most) × T (le zero_f most)
    pub near : T (le f_low (neg (of_bits F p.near))) × T (le (of_bits F p.near) f_high) × T (le f_low zero_f) × T (le (of_bits F p.near_up) f_high)
    pub inside : T (ltb end (ones F * hid F))
    pub lowest : T (finite (neg (below_one F))) × T (le (edge first) (add F (one F) (neg (below_one F)))) × T (positive (edge first))
    pub mended : T (every mends fields first)
    pub none : T (le c_low (plus_zero F)) × T (le (plus_zero F) c_high)
    pub sum : T (fits_in (span F (mended_code p.log) (Cs p.log (emax F) (2 + emax F) least most (mk c_low c_high))) least most)
    pub infinite : T (not (is_nan (minus_infinity F)))

  module _ (ok : Sizes) where
    sum_in : (k : ℤ) (f c : Float) → In f (mk f_low f_high) → Between (emax F) (2 + emax F) k → In c (mk c_low c_high) → In (sum_of p k f c) (mk least most)
    sum_in k f c i b j = mended_in p.log (emax F) (2 + emax F) least most (mk c_low c_high) ok.sum f k c i b j

    -- ---- x itself as f
    near_in : (x : Float) → T (not (is_nan x)) → T (near_of p x) → In (sum_of p (pos 0) x (plus_zero F)) (mk least most)
    near_in x n h = sum_in (pos 0) x (plus_zero F) (go (is_sign_negative x) refl h) (zero_between (emax F)) ok.none
      where
        zero_between : (e : ℕ) → Between e (2 + e) (pos 0)
        zero_between e = (omega (arith, ints), omega (arith, ints))

        go : (s : Bool) → is_sign_negative x ≡ s → T (cond s (below_bits F x p.near) (below_bits F x p.near_up)) → In x (mk f_low f_high)
        go true s w =
            let b = of_bits F p.near in
            let i = mag_in x b (lt-le (mag x) b w) in
            (le_trans_f f_low (neg b) x ok.near.0 i.0, le_trans_f x b f_high i.1 ok.near.1)
        go false s w =
            let b = of_bits F p.near_up in
            subst (λ (z : Float). In z (mk f_low f_high)) (mag_plain x s)
            (le_trans_f f_low zero_f (mag x) ok.near.2 (mag_zero x n), le_trans_f (mag x) b f_high (lt-le (mag x) b w) ok.near.3)

    -- ---- 1 + x is cut
    module _ (x : Float) (fit : T (fits F x)) (X : T (finite x)) (above : T (not (le x (minus_one F)))) where
      abbrev u : Float
      u = add F (one F) x

      x_over : T (le (neg (below_one F)) x)
      x_over = from_minus_one F x fit (finite_number x X) above

      u_over : T (le (edge first) u)
      u_over =
          le_trans_f (edge first) (add F (one F) (neg (below_one F))) u ok.lowest.1
          (add_mono F (one F) (one F) (neg (below_one F)) x (one_finite F) (one_finite F) ok.lowest.0 X (le_refl_f (one F) (one_finite F)) x_over)

      u_number : T (not (is_nan u))
      u_number = number_above (edge first) u u_over

      u_plain : is_sign_negative u ≡ false
      u_plain = above_plain (edge first) u ok.lowest.2 u_over

      abbrev k : ℤ
      k = exponent_of p.log (to_bits F u)

      abbrev bits : ℕ
      bits = to_bits F u % top F

      -- below the exponent from which it is zero
      module _ (h : T (int_lt k p.exact)) where
        end_inside : end < ones F * hid F
        end_inside = ltb→lt end (ones F * hid F) ok.inside

        bits_under : bits < end
        bits_under = pattern_under p.log (to_bits F u) (count p.exact) (count_lt k p.exact h)

        bits_over : first * hid F ≤ bits
        bits_over =
            nltb→le bits (first * hid F)
            (off (ltb bits (first * hid F)) (bits_is F u (first * hid F) (add-fits F (one F) x) (mul-lt-mul_of_pos_right (less (emax F) (prec F)) (pow_pos (prec F - 1))) ∙ is_off (lt (mag u) (edge first)) (not_T (lt (mag u) (edge first)) (λ w. lt_not_le u (edge first) (subst (λ (z : Float). T (lt z (edge first))) (mag_plain u u_plain) w) u_over))))
          where
            less : (e d : ℕ) → e - d < 2 * e + 1
            less e d = omega arith

        abbrev q : ℕ
        q = bits / hid F

        q_over : first ≤ q
        q_over = (le-div_iff_mul-le (pow_pos (prec F - 1))).1 bits_over

        q_under : q < emax F + count p.exact
        q_under = (div-lt_iff_lt-mul (pow_pos (prec F - 1))).1 bits_under

        u_in : In u (mk (edge q) (edge (suc q)))
        u_in =
            side_plain u (edge q) (edge (suc q)) u_plain
            (mag_over F u (q * hid F) (add-fits F (one F) x) u_number split.0 (lt_of_le_of_lt split.0 (lt_of_lt_of_le bits_under (le_of_lt end_inside))))
            (mag_under F u (suc q * hid F) (add-fits F (one F) x) u_number (le_of_lt split.1) (lt_of_le_of_lt (mul-le-mul_right (hid F) q_under) end_inside))
          where
            split : (q * hid F ≤ bits) × (bits < suc q * hid F)
            split =
                let e = div-add-mod' bits (hid F) in
                let l = mod-lt bits (pow_pos (prec F - 1)) in
                let w = suc-mul q (hid F) in
                (omega arith, omega arith)

        test : T (mends q)
        test = subst (λ (i : ℕ). T (mends i)) (back first q q_over) (every_at mends fields first (q - first) ok.mended (few (emax F) (prec F) (count p.exact) q q_over q_under))
          where
            back : (a b : ℕ) → a ≤ b → a + (b - a) ≡ b
            back a b h = omega arith

            few : (e d c q : ℕ) → e - d ≤ q → q < e + c → q - (e - d) < d + c
            few e d c q h k = omega arith

        x_in : In x (mk (x_low q) (x_high q))
        x_in =
            let t = and_l (ends q) (quotients q) test in
            let L = finite (x_low q) in
            let H = finite (x_high q) in
            let A = not (le (edge q) (add F (one F) (x_low q))) in
            let B = not (le (add F (one F) (x_high q)) (edge (suc q))) in
            let t' = and_r L (H && (A && B)) t in
            let v = and_r H (A && B) t' in
            let lf = and_l L (H && (A && B)) t in
            let hf = and_l H (A && B) t' in (
              under_by (λ z. add F (one F) z) x (x_low q) X lf (rising x (x_low q) X lf) (not_T (le u (add F (one F) (x_low q))) (λ w. le_apart (edge q) u (add F (one F) (x_low q)) (and_l A B v) u_in.0 w)),
              under_by (λ z. add F (one F) z) (x_high q) x hf X (rising (x_high q) x hf X) (not_T (le (add F (one F) (x_high q)) u) (λ w. le_apart (add F (one F) (x_high q)) u (edge (suc q)) (and_r A B v) w u_in.1)),
            )
          where
            rising : (a b : Float) → T (finite a) → T (finite b) → T (le a b) → T (le (add F (one F) a) (add F (one F) b))
            rising a b A B h = add_mono F (one F) (one F) a b (one_finite F) (one_finite F) A B (le_refl_f (one F) (one_finite F)) h

        quotient_in : In (div F (lost_of p k x u) u) (mk c_low c_high)
        quotient_in =
            let a = sub F (one F) (sub F u x) in
            let b = sub F x (sub F u (one F)) in
            let l = fits_in (span F large_code (Us q)) c_low c_high in
            let s = fits_in (span F small_code (Us q)) c_low c_high in
            let t = and_r (ends q) (quotients q) test in
            by_cases (λ (z : Float). In (div F z u) (mk c_low c_high)) (int_le (pos 2) k) a b
            (λ _. bounded_all F large_code (x ∷ u ∷ []) (Us q) c_low c_high (and_l l s t) (x_in, (u_in, tt)))
            (λ _. bounded_all F small_code (x ∷ u ∷ []) (Us q) c_low c_high (and_r l s t) (x_in, (u_in, tt)))

      correction_in : In (correction_of p k x u) (mk c_low c_high)
      correction_in = by_cases (λ (c : Float). In c (mk c_low c_high)) (int_lt k p.exact) (div F (lost_of p k x u) u) (plus_zero F) quotient_in (λ _. ok.none)

      cut_in : In (cut_of p x u (to_bits F u)) (mk least most)
      cut_in =
          sum_in k (sub F (significand_of p.log (to_bits F u)) (one F)) (correction_of p k x u) (fraction_in p.log ok.cuts (to_bits F u)) (exponent_in p.log ok.cuts (to_bits F u)) correction_in

    -- ---- the bands
    abbrev tail : Float → Float
    tail x = cond (below_bits F x p.tiny) x (cond (near_of p x) (sum_of p (pos 0) x (plus_zero F)) (cut_of p x (add F (one F) x) (to_bits F (add F (one F) x))))

    size_in : (x b : Float) → T (le b most) → T (le (mag x) b) → In x (mk least most)
    size_in x b h k = unfold neg in mag_in x most (le_trans_f (mag x) b most k h)

    tail_in : (x : Float) → T (fits F x) → T (finite x) → T (not (le x (minus_one F))) → In (tail x) (mk least most)
    tail_in x fit X above =
        let Q = λ (z : Float). In z (mk least most) in
        let A = sum_of p (pos 0) x (plus_zero F) in
        let B = cut_of p x (add F (one F) x) (to_bits F (add F (one F) x)) in
        by_cases Q (below_bits F x p.tiny) x (cond (near_of p x) A B)
        (λ w. size_in x (of_bits F p.tiny) ok.tiny.0 (lt-le (mag x) (of_bits F p.tiny) w))
        (λ _. by_cases Q (near_of p x) A B (λ w. near_in x (finite_number x X) w) (λ _. cut_in x fit X above))

    rest_in : (x : Float) → T (fits F x) → T (finite x) → T (not (lt x (minus_one F))) → T (not (eq x (minus_one F))) → In (tail x) (mk least most)
    unfolding le
    rest_in x fit X a b = tail_in x fit X (not_T (le x (minus_one F)) (λ w. elim (or_split (lt x (minus_one F)) (eq x (minus_one F)) w) [ inl l ↦ T_not (lt x (minus_one F)) a l | inr e ↦ T_not (eq x (minus_one F)) b e ]))

    -- a number from -1 on
    bands_number : (x : Float) → T (fits F x) → T (finite x) → T (le (minus_one F) x) → T (not (is_nan (bands_of p x)))
    bands_number x fit X h =
        let Q = λ (z : Float). T (not (is_nan z)) in
        by_cases Q (lt x (minus_one F)) (not_a_number F) (cond (eq x (minus_one F)) (minus_infinity F) (tail x))
        (λ w. absurd (lt_not_le x (minus_one F) w h))
        (λ a. by_cases Q (eq x (minus_one F)) (minus_infinity F) (tail x) (λ _. ok.infinite) (λ b. number_above least (tail x) (rest_in x fit X a b).0))

    pub value_number : (x : Float) → T (fits F x) → T (le (minus_one F) x) → T (not (is_nan (value_of p x)))
    value_number nan fit h = number_above (minus_one F) nan h
    value_number (inf true) fit h = absurd (no_infinite F h)
    value_number (inf false) fit h = unfold is_nan in tt
    value_number (fin s zero e) fit h = unfold is_nan in tt
    value_number (fin s (suc m) e) fit h = bands_number (fin s (suc m) e) fit tt h

    -- between -n and n above -1
    bands_in : (x : Float) → T (fits F x) → T (finite x) → T (lt (minus_one F) x) → In (bands_of p x) (mk least most)
    bands_in x fit X h =
        let Q = λ (z : Float). In z (mk least most) in
        by_cases Q (lt x (minus_one F)) (not_a_number F) (cond (eq x (minus_one F)) (minus_infinity F) (tail x))
        (λ w. absurd (lt_not_le x (minus_one F) w (lt-le (minus_one F) x h)))
        (λ a. by_cases Q (eq x (minus_one F)) (minus_infinity F) (tail x)
        (λ w. absurd (lt_not_le (minus_one F) x h (eq-le x (minus_one F) w)))
        (λ b. rest_in x fit X a b))

    pub value_in : (x : Float) → T (fits F x) → T (finite x) → T (lt (minus_one F) x) → In (value_of p x) (mk least most)
    value_in nan fit X h = absurd X
    value_in (inf s) fit X h = absurd X
    value_in (fin s zero e) fit X h = size_in (fin s 0 e) zero_f ok.tiny.1 (unfold float_with_sign in zero_under false e)
    value_in (fin s (suc m) e) fit X h = bands_in (fin s (suc m) e) fit tt h
