-- The definitions have Annex F's special values. Assumes nothing.
use Rattle.std.proofs.Common.{◌≡◌, ℕ, zero, suc, Bool, true, false, cond, T, ℤ, pos, sym, refl, ap, ◌∙◌, subst, arith, ltb→lt}
use lib.Ieee.{Float, nan, inf, fin, neg, lt, eq, of_bits}
use Rattle.std.specs.Float.{is_sign_negative, float_with_sign}
use Rattle.numeric.proofs.Tests.{is_on}
use Rattle.exponential.specs.Exp.{exp_of}
use Rattle.exponential.specs.Expm1.{expm1_of}
use Rattle.logarithm.specs.Log.{log_of}
use Rattle.logarithm.specs.Log1p as Log1p
use Rattle.logarithm.specs.Log1p.{log1p_of}
use Rattle.single.specs.Expm1f.{expm1f_of}
use Rattle.single.specs.Log1pf.{log1pf_of}
use Rattle.float.specs.Constants.{minus_one, not_a_number}
use Rattle.hyperbolic.specs.Sinh.{sinh_of}
use Rattle.hyperbolic.specs.Cosh.{cosh_of}
use Rattle.hyperbolic.specs.Tanh.{tanh_of}
use Rattle.inverse.specs.Asinh.{asinh_of}
use Rattle.inverse.specs.Acosh.{acosh_of}
use Rattle.inverse.specs.Atanh as Atanh
use Rattle.inverse.specs.Atanh.{atanh_of}
use Rattle.values.specs.AnnexF.{AnnexF}

-- a test that passes chooses the first
first : (b : Bool) (p q : Float) → T b → cond b p q ≡ p
first b p q h = ap (λ (c : Bool). cond c p q) (is_on b h)

-- a zero lies below no zero, and neither below -1 nor above 1
no_zero_below : (s : Bool) (e : ℤ) → T (lt (fin s 0 e) (fin false 0 (pos 0))) → ⊥
unfolding lt
no_zero_below true e h = omega (arith, ltb→lt _ _ h)
no_zero_below false e h = omega (arith, ltb→lt _ _ h)

nothing_below_zero : (m : ℕ) (e : ℤ) → T (lt (fin false m e) (fin false 0 (pos 0))) → ⊥
unfolding lt
nothing_below_zero m e h = omega (arith, ltb→lt _ _ h)

no_zero_below_minus_one : (s : Bool) (e : ℤ) → T (lt (fin s 0 e) (fin true 1 (pos 0))) → ⊥
unfolding lt
no_zero_below_minus_one false e h = h
no_zero_below_minus_one true e h = omega (arith, ltb→lt _ _ h)

no_zero_above_one : (e : ℤ) → T (lt (fin false 1 (pos 0)) (fin false 0 e)) → ⊥
unfolding lt
no_zero_above_one e h = omega (arith, ltb→lt _ _ h)

-- ---- outside the domains
acosh_below : (x : Float) → T (lt x (fin false 1 (pos 0))) → acosh_of x ≡ nan
acosh_below nan h = unfold acosh_of in refl
acosh_below (inf true) h = unfold acosh_of in refl
acosh_below (inf false) h = absurd (unfold lt in h)
acosh_below (fin s m e) h = unfold acosh_of of_bits in first (lt (fin s m e) (fin false 1 (pos 0))) nan _ h

log_below : (x : Float) → T (lt x (fin false 0 (pos 0))) → log_of x ≡ nan
log_below nan h = unfold log_of in refl
log_below (inf true) h = unfold log_of in refl
log_below (inf false) h = absurd (unfold lt in h)
log_below (fin s zero e) h = absurd (no_zero_below s e h)
log_below (fin true (suc m) e) h = unfold log_of in refl
log_below (fin false (suc m) e) h = absurd (nothing_below_zero (suc m) e h)

-- in each format: where -1 and the NaN are what they should be
module _ (t : Log1p.Log1p) (one_is : minus_one t.log.format ≡ fin true 1 (pos 0)) (nan_is : not_a_number t.log.format ≡ nan) where
  log1p_below : (x : Float) → T (lt x (fin true 1 (pos 0))) → Log1p.value_of t x ≡ nan
  log1p_below nan h = refl
  log1p_below (inf true) h = refl
  log1p_below (inf false) h = absurd (unfold lt in h)
  log1p_below (fin s zero e) h = absurd (no_zero_below_minus_one s e h)
  log1p_below (fin s (suc m) e) h = first (lt (fin s (suc m) e) (minus_one t.log.format)) (not_a_number t.log.format) _ (subst (λ (y : Float). T (lt (fin s (suc m) e) y)) (sym one_is) h) ∙ nan_is

size_beyond : (y : Float) → T (lt (fin false 1 (pos 0)) y) → Atanh.size_of y ≡ nan
unfolding of_bits
size_beyond y h = first (lt (fin false 1 (pos 0)) y) nan _ h

turned_nan : (y : Float) → y ≡ nan → neg y ≡ nan
turned_nan y e = ap neg e ∙ (unfold neg in refl)

atanh_beyond : (x : Float) → T (lt (fin false 1 (pos 0)) (float_with_sign false x)) → atanh_of x ≡ nan
atanh_beyond nan h = unfold atanh_of in refl
atanh_beyond (inf s) h = unfold atanh_of in refl
atanh_beyond (fin s zero e) h = absurd (no_zero_above_one e (unfold float_with_sign in h))
atanh_beyond (fin true (suc m) e) h = let k = turned_nan (Atanh.size_of (float_with_sign false (fin true (suc m) e))) (size_beyond (float_with_sign false (fin true (suc m) e)) h) in unfold atanh_of is_sign_negative in k
atanh_beyond (fin false (suc m) e) h = let k = size_beyond (float_with_sign false (fin false (suc m) e)) h in unfold atanh_of is_sign_negative in k

-- ---- at single values, of either sign
atanh_ones : (s : Bool) → atanh_of (fin s 1 (pos 0)) ≡ inf s
unfolding atanh_of is_sign_negative float_with_sign lt eq of_bits neg
atanh_ones true = refl
atanh_ones false = refl

tanh_ends : (s : Bool) → tanh_of (inf s) ≡ fin s 1 (pos 0)
unfolding tanh_of of_bits
tanh_ends true = refl
tanh_ends false = refl

acosh_one : acosh_of (fin false 1 (pos 0)) ≡ fin false 0 (pos 0)
unfolding acosh_of of_bits lt eq
acosh_one = refl

log_one : log_of (fin false 1 (pos 0)) ≡ fin false 0 (pos 0)
unfolding log_of of_bits eq
log_one = refl

log1p_minus_one : (log1p_of (fin true 1 (pos 0)) ≡ inf true) × (log1pf_of (fin true 1 (pos 0)) ≡ inf true)
unfolding log1p_of log1pf_of of_bits lt eq
log1p_minus_one = (refl, refl)

pub annex_f : AnnexF
unfolding acosh_of asinh_of atanh_of cosh_of sinh_of tanh_of exp_of expm1_of log_of log1p_of expm1f_of log1pf_of of_bits
annex_f = record {
  acosh = record { keeps_nan = refl; at_one = acosh_one; below_one = acosh_below; at_infinity = refl };
  asinh = record { keeps_nan = refl; keeps_zeros = λ s. refl; keeps_infinities = λ s. refl };
  atanh = record { keeps_nan = refl; keeps_zeros = λ s. refl; at_one = atanh_ones; beyond_one = atanh_beyond };
  cosh = record { keeps_nan = refl; at_zero = λ s. refl; at_infinity = λ s. refl };
  sinh = record { keeps_nan = refl; keeps_zeros = λ s. refl; keeps_infinities = λ s. refl };
  tanh = record { keeps_nan = refl; keeps_zeros = λ s. refl; at_infinity = tanh_ends };
  exp = record { keeps_nan = refl; at_zero = λ s. refl; at_minus_infinity = refl; at_infinity = refl };
  expm1 = record { keeps_nan = refl; keeps_zeros = λ s. refl; at_minus_infinity = refl; at_infinity = refl };
  log = record { keeps_nan = refl; at_zero = λ s. refl; at_one = log_one; below_zero = log_below; at_infinity = refl };
  log1p = record { keeps_nan = refl; keeps_zeros = λ s. refl; at_minus_one = log1p_minus_one.0; below_minus_one = log1p_below Log1p.double refl refl; at_infinity = refl };
  expm1f = record { keeps_nan = refl; keeps_zeros = λ s. refl; at_minus_infinity = refl; at_infinity = refl };
  log1pf = record { keeps_nan = refl; keeps_zeros = λ s. refl; at_minus_one = log1p_minus_one.1; below_minus_one = log1p_below Log1p.single refl refl; at_infinity = refl };
}
