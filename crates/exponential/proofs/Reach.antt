-- Which arguments of expm1 are reducible: those below the far size, and those from there up to the threshold of overflow. Assumes nothing.
use Rattle.std.proofs.Common.{◌≡◌, Bool, true, false, not, ◌&&◌, T, sym, refl, subst}
use lib.Ieee.{Float, le, lt, is_nan, of_bits}
use Rattle.std.specs.Float.{is_sign_negative}
use Rattle.numeric.proofs.Rounding.{le_trans_f}
use Rattle.numeric.proofs.Order.{lt-le, not_lt-le}
use Rattle.numeric.proofs.Tests.{on, off}
use Rattle.numeric.proofs.Words.{mag, mag_plain}
use Rattle.float.specs.Band.{below_bits}
use Rattle.exponential.specs.Ln2.{widest_of, Reducible}
use Rattle.exponential.specs.Expm1.{Expm1, sunk, over}
use Rattle.exponential.specs.Counts.{Reduces}

module _ (t : Expm1) where
  abbrev far_of : Float
  far_of = of_bits t.ln2.format t.far

  abbrev overflow_of : Float
  overflow_of = of_bits t.ln2.format t.overflow

  pub near_reducible : T (le far_of (widest_of t.ln2)) → (x : Float) → T (below_bits t.ln2.format x t.far) → Reducible t.ln2 x
  near_reducible w x h = le_trans_f (mag x) far_of (widest_of t.ln2) (lt-le (mag x) far_of h) w

  pub far_reducible : T (not (is_nan overflow_of)) → T (le overflow_of (widest_of t.ln2)) → (x : Float) → T (not (is_nan x)) → is_sign_negative x ≡ false → T (not (lt overflow_of x)) → Reducible t.ln2 x
  far_reducible v w x n s h = le_trans_f (mag x) overflow_of (widest_of t.ln2) (subst (λ (y : Float). T (le y overflow_of)) (sym (mag_plain x s)) (not_lt-le overflow_of x v n h)) w

  -- what is left when no band of the far sizes has answered
  pub left_reducible : Reduces t → (x : Float) → T (not (is_nan x)) → sunk t x ≡ false → over t x ≡ false → Reducible t.ln2 x
  left_reducible w x n h k = go (below_bits t.ln2.format x t.far) refl h k
    where
      go : (b : Bool) → below_bits t.ln2.format x t.far ≡ b → (not b && is_sign_negative x) ≡ false → (not b && lt overflow_of x) ≡ false → Reducible t.ln2 x
      go true e i j = near_reducible w.far_in x (on (below_bits t.ln2.format x t.far) e)
      go false e i j = far_reducible w.overflow_is w.overflow_in x n i (off (lt overflow_of x) j)
