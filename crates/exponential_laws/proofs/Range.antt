-- Where the values of expm1 lie, over the constants of a format: each law is a property shown for each band. Assumes nothing.
use Rattle.std.proofs.Common.{◌≡◌, ℕ, zero, suc, ◌+◌, ◌*◌, ◌<◌, ◌≤◌, Bool, true, false, not, T, ℤ, pos, negsuc, sym, refl, ◌∙◌, subst, inl, inr, true≢false, le_of_suc-le-suc, zero-lt-suc, eq-or-lt_of_le, mul-pos, arith}
use lib.Ieee.{Float, nan, inf, fin, up, down, neg, le, lt, is_nan, fits}
use lib.Ieee.Fits.{up_pos}
use Rattle.std.specs.Float.{is_sign_negative}
use Rattle.numeric.proofs.Rounding.{Le_of_le, le_trans_f, neg-le, neg-neg}
use Rattle.numeric.proofs.Intervals.{mk, In}
use Rattle.numeric.proofs.Order.{zero_f, number_above}
use Rattle.numeric.proofs.Split.{Sizes}
use Rattle.numeric.proofs.Words.{mag, mag_turned, mag_zero, mag_in, side_plain, side_turned}
use Rattle.float.specs.Constants.{minus_one, infinity}
use Rattle.exponential.specs.Ln2.{high_rest, low_rest}
use Rattle.exponential.specs.Expm1.{Expm1, unscaled, value_of}
use Rattle.reduction_laws.proofs.Counting.{from, Table, Reduced, count_under}
use Rattle.exponential_laws.proofs.Kernel.{F, Kernel, half_f, minus_half_lem, plain_in, plain_up_in}
use Rattle.exponential_laws.proofs.Ladder.{Ladder, Up, minus_one_f, largest, rebuilt_up, rebuilt_last, rebuilt_down}
use Rattle.exponential_laws.proofs.Cases.{Ends, Cases, tiny_of, once_of, far_of, overflow_of, rebuilt_at, value_cases}

pub both_signs : (x : Float) {A : Type 0} → is_sign_negative x ≡ false → is_sign_negative x ≡ true → A
both_signs x p q = absurd (true≢false (sym q ∙ p))

-- what else has to be computed of the constants
pub record Limits (t : Expm1) (top : ℕ) : Type 0 where
  pub tiny_largest : T (le (tiny_of t) (largest (F t)))
  pub half_largest : T (le half_f (largest (F t)))
  pub tiny_one : T (le minus_one_f (neg (tiny_of t)))
  pub last_count : T (not (le (from t.ln2 (suc (suc top))) (overflow_of t)))
  pub least_count : T (not (le (from t.ln2 58) (far_of t)))
  pub infinity_above : T (le zero_f (infinity (F t)))
  pub minus_one_is : minus_one (F t) ≡ minus_one_f

-- all of it
pub record Computed (t : Expm1) (z : Sizes) (m top : ℕ) : Type 0 where
  pub table : Table t.ln2 z m
  pub kernel : Kernel t z
  pub ladder : Ladder t top
  pub ends : Ends t
  pub limits : Limits t top

-- ---- of the opposite of the size
pub turn_over : (x a : Float) → T (le x (neg a)) → is_sign_negative x ≡ true → T (le a (mag x))
turn_over x a h s =
    subst (λ (y : Float). T (le y (mag x))) (neg-neg a)
    (subst (λ (y : Float). T (le (neg (neg a)) y)) (neg-neg (mag x)) (neg-le (neg (mag x)) (neg a) (subst (λ (y : Float). T (le y (neg a))) (sym (mag_turned x s)) h)))

module _ (t : Expm1) (z : Sizes) (m top : ℕ) (c : Computed t z m top) where
  -- a property of the value of every number, by its bands
  pub by_bands : (Q : Float → Type 0) (x : Float) → T (fits (F t) x) → T (not (is_nan x)) → Cases t z Q x → Q (value_of t x)
  by_bands Q x p n k = value_cases t z m c.table c.ends Q x n k p

  -- a count above zero where x is at most b
  pub up_count : (i n : ℕ) (x b : Float) → T (not (le (from t.ln2 (suc i)) b)) → T (le x b) → Reduced t.ln2 z (pos (suc n)) x → suc n ≤ i
  up_count i n x b w h r = count_under t.ln2 i (suc n) x b w r.near.0 h

  pub down_count : (i j : ℕ) (x b : Float) → T (not (le (from t.ln2 (suc i)) b)) → T (le (mag x) b) → is_sign_negative x ≡ true → Reduced t.ln2 z (negsuc j) x → suc j ≤ i
  down_count i j x b w h s r = count_under t.ln2 i (suc j) (mag x) b w (turn_over x (from t.ln2 (suc j)) r.near.1 s) h

  -- ---- x not negative: all but the overflow and the last count lie between zero and the largest value
  abbrev pub Last : Float → Type 0
  Last x = Reduced t.ln2 z (pos (suc top)) x

  pub up_cases : (Q : Float → Type 0) (x : Float) → T (not (is_nan x)) → is_sign_negative x ≡ false → ((y : Float) → Up (F t) y → Q y) → (Last x → Q (rebuilt_at t (pos (suc top)) x)) → (T (lt (overflow_of t) x) → Q (infinity (F t))) → Cases t z Q x
  up_cases Q x i s all last over =
      record {
        tiny = λ h. all x (side_plain x zero_f (largest (F t)) s (mag_zero x i) (le_trans_f (mag x) (tiny_of t) (largest (F t)) h c.limits.tiny_largest));
        plain = λ h. (let v = plain_up_in t z c.kernel x (side_plain x zero_f (once_of t) s (mag_zero x i) h.1) in all (unscaled t x) (v.0, le_trans_f (unscaled t x) half_f (largest (F t)) v.1 c.limits.half_largest));
        up = λ n _ h r. counted n (up_count (suc top) n x (overflow_of t) c.limits.last_count h r) r;
        down = λ _ v _ _. both_signs x s v;
        lowest = λ v _. both_signs x s v;
        highest = λ _ h. over h;
      }
    where
      counted : (n : ℕ) → suc n ≤ suc top → Reduced t.ln2 z (pos (suc n)) x → Q (rebuilt_at t (pos (suc n)) x)
      counted n h r = elim (eq-or-lt_of_le (le_of_suc-le-suc h)) [
        | inl e ↦ subst (λ (i : ℕ). Q (rebuilt_at t (pos (suc i)) x)) (sym e) (last (subst (λ (i : ℕ). Reduced t.ln2 z (pos (suc i)) x) e r))
        | inr l ↦ all (rebuilt_at t (pos (suc n)) x) (rebuilt_up t z top c.kernel c.ladder (high_rest t.ln2 (pos (suc n)) x) (low_rest t.ln2 (pos (suc n))) r.parts n l)
      ]

  pub from_zero : (x : Float) → T (fits (F t) x) → T (not (is_nan x)) → is_sign_negative x ≡ false → T (le zero_f (value_of t x))
  from_zero x p i s =
      by_bands (λ (y : Float). T (le zero_f y)) x p i
      (up_cases (λ (y : Float). T (le zero_f y)) x i s (λ y h. h.0) (λ r. rebuilt_last t z top c.kernel c.ladder (high_rest t.ln2 (pos (suc top)) x) (low_rest t.ln2 (pos (suc top))) r.parts) (λ _. c.limits.infinity_above))

  -- ---- x negative: between -1 and 1/2
  abbrev pub Low : Float → Type 0
  Low y = In y (mk minus_one_f half_f)

  pub plain_low : (x : Float) → T (le (mag x) (once_of t)) → In (unscaled t x) (mk minus_half_lem half_f)
  plain_low x h = plain_in t z c.kernel x (mag_in x (once_of t) h)

  below_ends : T (le minus_one_f minus_half_lem) × T (le (neg zero_f) half_f) × T (le zero_f half_f) × T (le minus_one_f half_f) × T (le minus_one_f minus_one_f) × T (le minus_one_f zero_f)
  below_ends = unfold le neg in (tt, tt, tt, tt, tt, tt)

  low_cases : (x : Float) → T (not (is_nan x)) → is_sign_negative x ≡ true → Cases t z Low x
  low_cases x i s =
      record {
        tiny = λ h. (let v = side_turned x zero_f (tiny_of t) s (mag_zero x i) h in (le_trans_f minus_one_f (neg (tiny_of t)) x c.limits.tiny_one v.0, le_trans_f x (neg zero_f) half_f v.1 below_ends.1));
        plain = λ h. (let v = plain_low x h.1 in (le_trans_f minus_one_f minus_half_lem (unscaled t x) below_ends.0 v.0, v.1));
        up = λ _ v _ _. both_signs x v s;
        down = λ j _ h r. (let v = rebuilt_down t z top c.kernel c.ladder (high_rest t.ln2 (negsuc j) x) (low_rest t.ln2 (negsuc j)) r.parts j (down_count 57 j x (far_of t) c.limits.least_count h s r) in
            (v.0, le_trans_f (rebuilt_at t (negsuc j) x) zero_f half_f v.1 below_ends.2));
        lowest = λ _ _. subst Low (sym c.limits.minus_one_is) (below_ends.4, below_ends.3);
        highest = λ v _. both_signs x v s;
      }

  pub below_zero : (x : Float) → T (fits (F t) x) → T (not (is_nan x)) → is_sign_negative x ≡ true → Low (value_of t x)
  below_zero x p i s = by_bands Low x p i (low_cases x i s)

  -- ---- the laws
  pub above : (x : Float) → T (fits (F t) x) → T (not (is_nan x)) → T (le (minus_one (F t)) (value_of t x))
  above x p i = subst (λ (y : Float). T (le y (value_of t x))) (sym c.limits.minus_one_is) (go (is_sign_negative x) refl)
    where
      go : (s : Bool) → is_sign_negative x ≡ s → T (le minus_one_f (value_of t x))
      go true s = (below_zero x p i s).0
      go false s = le_trans_f minus_one_f zero_f (value_of t x) below_ends.5 (from_zero x p i s)

-- a value from zero on has no sign, or is the zero with one
pub zero_or_plain : (Q : Float → Type 0) (x : Float) → T (le zero_f x) → ((e : ℤ) → Q (fin true 0 e)) → (is_sign_negative x ≡ false → Q x) → Q x
zero_or_plain Q nan h z p = absurd (unfold le in h)
zero_or_plain Q (inf true) h z p = absurd (unfold le in h)
zero_or_plain Q (inf false) h z p = p (unfold is_sign_negative in refl)
zero_or_plain Q (fin false m e) h z p = p (unfold is_sign_negative in refl)
zero_or_plain Q (fin true zero e) h z p = z e
zero_or_plain Q (fin true (suc m) e) h z p = absurd (no (suc m * up e) (down e) (mul-pos (zero-lt-suc m) (up_pos e)) (Le_of_le zero_f (fin true (suc m) e) tt tt h))
  where
    no : (a d : ℕ) → 0 < a → 0 * 1 * d + a * 1 ≤ 0 * 1 + 0 * d → ⊥
    no a d g k = omega arith

module _ (t : Expm1) (z : Sizes) (m top : ℕ) (c : Computed t z m top) where
  pub rises : (x : Float) → T (fits (F t) x) → T (le zero_f x) → T (le zero_f (value_of t x))
  rises x p h = zero_or_plain (λ (y : Float). T (fits (F t) y) → T (le zero_f y) → T (le zero_f (value_of t y))) x h (λ e _ l. l) (λ s q l. from_zero t z m top c x q (number_above zero_f x l) s) p h
