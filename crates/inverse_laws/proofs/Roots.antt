-- The root of what is not negative is not negative, and at most c where that is at most c². Assumes nothing.
use Rattle.std.proofs.Common.{◌≡◌, ℕ, zero, suc, ◌+◌, ◌*◌, ◌/◌, ◌^◌, ◌<◌, ◌≤◌, true, false, T, pos, refl, ap, ◌∙◌, le_trans, le_of_eq, le_of_suc-le-suc, mul-le-mul_right, suc-mul, div-lt_iff_lt-mul, mul-one, mul_right_comm, mul_left_comm, arith, pow_pos}
use native.Mathlib.Nat.{mul-mul-mul_comm}
use lib.Ieee.{Float, nan, inf, fin, Format, up, down, le}
use lib.Ieee.Fits.{down_pos}
use lib.Ieee.Order.{round_mono}
use lib.Ieee.{root_twice}
use Rattle.numeric.proofs.Rounding.{Signed, round_signed, signed_le, Le_of_le, le_trans_f}
use Rattle.numeric.proofs.Intervals.{mk, In}
use Rattle.numeric.proofs.Order.{zero_f}
use Rattle.root.specs.Sqrt.{root_of, sqrt_of}
use Rattle.root.proofs.WholeRoot.{of_beyond}
use Rattle.logarithm_laws.proofs.Whole.{whole, zero_under, above_negative}

-- the whole number under the root, for a / b at most c², and w² places
scaled : (a b c w : ℕ) → 0 < b → a ≤ c * c * b → a * (w * w) / b ≤ c * w * (c * w)
scaled a b c w B h =
    let k : a * (w * w) ≤ c * c * b * (w * w) = mul-le-mul_right (w * w) h in
    let e : c * c * b * (w * w) ≡ c * w * (c * w) * b = mul_right_comm (c * c) b (w * w) ∙ ap (λ (z : ℕ). z * b) (mul-mul-mul_comm c c w w) in
    let s = suc-mul (c * w * (c * w)) b in
    le_of_suc-le-suc ((div-lt_iff_lt-mul B).1 (omega arith))

root_under : (f : Format) (a b c : ℕ) → 0 < b → a ≤ c * c * b → T (le (root_of f a b) (whole f c))
root_under f a b c B h =
    let n = a * 2 ^ 4542 / b in
    let k : root_twice n ≤ 2 * (c * 2 ^ 2271) = of_beyond (c * 2 ^ 2271) n (scaled a b c (2 ^ 2271) B h) in
    round_mono f (root_twice n) (2 ^ 2272) c 1 (pow_pos 2272) (pow_pos 0) (le_trans (le_of_eq (mul-one (root_twice n))) (le_trans k (le_of_eq (mul_left_comm 2 c (2 ^ 2271)))))

-- what is rounded without a sign
above_zero : (z : Float) → Signed false z → T (le zero_f z)
above_zero z s = le_trans_f zero_f (fin true 0 (pos 0)) z (unfold le in tt) (signed_le (fin true 0 (pos 0)) z refl s)

pub root_in : (f : Format) (x : Float) (c : ℕ) → T (le zero_f x) → T (le x (fin false (c * c) (pos 0))) → In (sqrt_of f x) (mk zero_f (whole f c))
unfolding sqrt_of
root_in f nan c h k = absurd (unfold le in h)
root_in f (inf true) c h k = absurd (unfold le in h)
root_in f (inf false) c h k = absurd (unfold le in k)
root_in f (fin s zero e) c h k = (h, le_trans_f (fin s 0 e) zero_f (whole f c) (zero_under s e) (above_zero (whole f c) (round_signed f false c 1)))
root_in f (fin true (suc m) e) c h k = absurd (above_negative m e h)
root_in f (fin false (suc m) e) c h k =
    let l = Le_of_le (fin false (suc m) e) (fin false (c * c) (pos 0)) tt tt k in (
      above_zero (root_of f (suc m * up e) (down e)) (round_signed f false (root_twice (suc m * up e * 2 ^ 4542 / down e)) (2 ^ 2272)),
      root_under f (suc m * up e) (down e) c (down_pos e) (plain (suc m * up e) (c * c) (down e) l),
    )
  where
    plain : (a q d : ℕ) → a * 1 + 0 * d ≤ q * 1 * d + 0 * 1 → a ≤ q * d
    plain a q d h = let e = mul-one q in let g = ap (λ (z : ℕ). z * d) e in omega arith
