-- What expm1 is, band by band, over the constants of a format: tests become bounds on x. Every law goes through this. Assumes nothing.
use Rattle.std.proofs.Common.{◌≡◌, ℕ, suc, ◌*◌, ◌<◌, ◌≤◌, Bool, true, false, cond, not, ◌&&◌, T, leb, ℤ, pos, negsuc, sym, refl, ◌∙◌, subst, true≢false, arith, leb→le}
use lib.Ieee.{Float, ones, hid, le, lt, is_nan, fits, of_bits}
use lib.Ieee.Positive.{positive}
use Rattle.std.specs.Float.{is_sign_negative}
use Rattle.numeric.proofs.Rounding.{and_l, and_r, le_trans_f}
use Rattle.numeric.proofs.Cases.{Agree, agree}
use Rattle.numeric.proofs.Intervals.{mk, In}
use Rattle.numeric.proofs.Order.{lt-le, not_lt-le}
use Rattle.numeric.proofs.Split.{Sizes}
use Rattle.numeric.proofs.Tests.{by_cases, is_on, on, off}
use Rattle.numeric.proofs.Words.{mag, mag_plain, not_below, above_plain}
use Rattle.float.specs.Band.{below_bits}
use Rattle.float.specs.Constants.{minus_one, infinity}
use Rattle.exponential.specs.Ln2.{equal_z, count_of, high_rest, low_rest, widest_of, Reducible}
use Rattle.exponential.specs.Expm1.{Expm1, unscaled, rebuilt, reduced_of, bands_of, value_of}
use Rattle.exponential.proofs.Reach.{near_reducible, far_reducible}
use Rattle.reduction_laws.proofs.Counting.{Table, Reduced, count_case}
use Rattle.exponential_laws.proofs.Kernel.{F}

-- the ends of the bands
module _ (t : Expm1) where
  abbrev pub tiny_of : Float
  tiny_of = of_bits (F t) t.tiny

  abbrev pub once_of : Float
  once_of = of_bits (F t) t.ln2.once

  abbrev pub far_of : Float
  far_of = of_bits (F t) t.far

  abbrev pub overflow_of : Float
  overflow_of = of_bits (F t) t.overflow

-- what has to be computed of them
pub record Ends (t : Expm1) : Type 0 where
  pub tiny_room : t.tiny < ones (F t) * hid (F t)
  pub far_room : t.far < ones (F t) * hid (F t)
  pub overflow_number : T (not (is_nan (overflow_of t)))
  pub overflow_positive : T (positive (overflow_of t))
  pub far_widest : T (le (far_of t) (widest_of t.ln2))
  pub overflow_widest : T (le (overflow_of t) (widest_of t.ln2))
  pub far_overflow : T (le (far_of t) (overflow_of t))
  pub special : Agree (bands_of t) (value_of t)

-- the value rebuilt from the parts of the rest
abbrev pub rebuilt_at : Expm1 → ℤ → Float → Float
rebuilt_at t k x = rebuilt t k (high_rest t.ln2 k x) (low_rest t.ln2 k)

-- a property of expm1's value, shown for each band
pub record Cases (t : Expm1) (z : Sizes) (Q : Float → Type 0) (x : Float) : Type 0 where
  pub tiny : T (le (mag x) (tiny_of t)) → Q x
  pub plain : In (mag x) (mk (tiny_of t) (once_of t)) → Q (unscaled t x)
  pub up : (n : ℕ) → is_sign_negative x ≡ false → T (le x (overflow_of t)) → Reduced t.ln2 z (pos (suc n)) x → Q (rebuilt_at t (pos (suc n)) x)
  pub down : (j : ℕ) → is_sign_negative x ≡ true → T (le (mag x) (far_of t)) → Reduced t.ln2 z (negsuc j) x → Q (rebuilt_at t (negsuc j) x)
  pub lowest : is_sign_negative x ≡ true → T (le (far_of t) (mag x)) → Q (minus_one (F t))
  pub highest : is_sign_negative x ≡ false → T (lt (overflow_of t) x) → Q (infinity (F t))

module _ (t : Expm1) (z : Sizes) (m : ℕ) (table : Table t.ln2 z m) (ends : Ends t) (Q : Float → Type 0) (x : Float) (number : T (not (is_nan x))) (c : Cases t z Q x) where
  -- the count of a reducible x that is not tiny
  reduced_case : Reducible t.ln2 x → T (le (tiny_of t) (mag x)) → (is_sign_negative x ≡ false → T (le x (overflow_of t))) → (is_sign_negative x ≡ true → T (le (mag x) (far_of t))) → Q (reduced_of t (count_of t.ln2 x) x)
  reduced_case ok h u d =
      count_case t.ln2 z m table x ok (λ (k : ℤ). Q (reduced_of t k x)) number
      (λ w. c.plain (h, lt-le (mag x) (once_of t) w))
      (λ n _ s r. by_cases Q (equal_z (pos (suc n)) (pos 0)) (unscaled t x) (rebuilt_at t (pos (suc n)) x) (λ w. absurd (never n (leb→le (suc n) 0 (and_l (leb (suc n) 0) (leb 0 (suc n)) w)))) (λ _. c.up n s (u s) r))
      (λ j _ s r. c.down j s (d s) r)
    where
      never : (n : ℕ) → suc n ≤ 0 → ⊥
      never n h = omega arith

  inside : (b s l : Bool) → below_bits (F t) x t.far ≡ b → is_sign_negative x ≡ s → lt (overflow_of t) x ≡ l → T (not (not b && s)) → T (not (not b && l)) → Reducible t.ln2 x × (is_sign_negative x ≡ false → T (le x (overflow_of t))) × (is_sign_negative x ≡ true → T (le (mag x) (far_of t)))
  inside true s l p q r h k =
      let w = on (below_bits (F t) x t.far) p in
      let v = lt-le (mag x) (far_of t) w in
      (near_reducible t ends.far_widest x w, (λ (e : is_sign_negative x ≡ false). le_trans_f x (far_of t) (overflow_of t) (subst (λ (y : Float). T (le y (far_of t))) (mag_plain x e) v) ends.far_overflow), λ _. v)
  inside false true l p q r h k = absurd h
  inside false false true p q r h k = absurd k
  inside false false false p q r h k =
      let w = off (lt (overflow_of t) x) r in
      (far_reducible t ends.overflow_number ends.overflow_widest x number q w, (λ _. not_lt-le (overflow_of t) x ends.overflow_number number w), λ (e : is_sign_negative x ≡ true). absurd (true≢false (sym e ∙ q)))

  bands_case : Q (bands_of t x)
  bands_case =
      let b = below_bits (F t) x t.far in
      let l = lt (overflow_of t) x in
      let v2 = cond (below_bits (F t) x t.tiny) x (reduced_of t (count_of t.ln2 x) x) in
      let v1 = cond (not b && l) (infinity (F t)) v2 in
      by_cases Q (not b && is_sign_negative x) (minus_one (F t)) v1
      (λ w. c.lowest (is_on (is_sign_negative x) (and_r (not b) (is_sign_negative x) w)) (not_below (F t) x t.far number ends.far_room (and_l (not b) (is_sign_negative x) w)))
      (λ v. by_cases Q (not b && l) (infinity (F t)) v2
      (λ w. (let o = and_r (not b) l w in c.highest (above_plain (overflow_of t) x ends.overflow_positive (lt-le (overflow_of t) x o)) o))
      (λ w. (let i = inside b (is_sign_negative x) l refl refl refl v w in
      by_cases Q (below_bits (F t) x t.tiny) x (reduced_of t (count_of t.ln2 x) x)
      (λ s. c.tiny (lt-le (mag x) (tiny_of t) s))
      (λ s. reduced_case i.0 (not_below (F t) x t.tiny number ends.tiny_room s) i.1 i.2))))

  -- the value of every number of the format
  pub value_cases : T (fits (F t) x) → Q (value_of t x)
  value_cases p = subst Q (agree (F t) (bands_of t) (value_of t) ends.special x p number) bands_case
