-- The tests and bands give what the definitions say first, at the special values. Assumes nothing.
use Rattle.std.proofs.Common.{◌≡◌, ℕ, suc, Bool, true, false, cond, ℤ, pos, refl, ap, ◌∙◌}
use lib.Ieee.{Float, fin, binary64, lt, eq, of_bits}
use Rattle.std.specs.Float.{is_sign_negative, float_with_sign}
use Rattle.numeric.proofs.Cases.{Agree}
use Rattle.numeric.proofs.Words.{nonzero}
use Rattle.float.specs.Constants.{infinity, plus_zero, minus_infinity, not_a_number}
use Rattle.logarithm.specs.Log as Log
use Rattle.logarithm.specs.Log.{log_of}
use Rattle.logarithm.specs.Log1p as Log1p
use Rattle.logarithm.specs.Log1p.{double, log1p_of}

-- ---- log
log_zero : (s : Bool) → Log.tests_of (fin s 0 (pos 0)) ≡ log_of (fin s 0 (pos 0))
unfolding log_of of_bits eq
log_zero true = refl
log_zero false = refl

-- past the test for zero
log_rest : (x : Float) → eq x (fin false 0 (pos 0)) ≡ false → Log.tests_of x ≡ cond (is_sign_negative x) (not_a_number binary64) (cond (eq x (infinity binary64)) x (Log.bands_of x))
log_rest x h =
    let k : eq x (plus_zero binary64) ≡ false = unfold of_bits in h in
    ap (λ (b : Bool). cond b (minus_infinity binary64) (cond (is_sign_negative x) (not_a_number binary64) (cond (eq x (infinity binary64)) x (Log.bands_of x)))) k

log_else : (s : Bool) (m : ℕ) (e : ℤ) → Log.tests_of (fin s (suc m) e) ≡ log_of (fin s (suc m) e)
log_else true m e = log_rest (fin true (suc m) e) (nonzero true m e) ∙ (unfold log_of of_bits is_sign_negative in refl)
log_else false m e = log_rest (fin false (suc m) e) (nonzero false m e) ∙ (unfold log_of of_bits eq is_sign_negative in refl)

pub log_tests : Agree Log.tests_of log_of
unfolding log_of of_bits eq is_sign_negative
log_tests = record { at_minus = refl; at_plus = refl; at_zero = log_zero; elsewhere = log_else }

-- ---- log1p
log1p_zero : (s : Bool) → Log1p.tests_of double (fin s 0 (pos 0)) ≡ log1p_of (fin s 0 (pos 0))
unfolding log1p_of of_bits eq lt float_with_sign
log1p_zero true = refl
log1p_zero false = refl

pub log1p_tests : Agree (Log1p.tests_of double) log1p_of
unfolding log1p_of of_bits eq lt
log1p_tests = record { at_minus = refl; at_plus = refl; at_zero = log1p_zero; elsewhere = λ s m e. refl }
