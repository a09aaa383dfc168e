-- The whole part of a root, and the number that `root_twice` makes of it, by squares. Assumes nothing.
use Rattle.std.proofs.Common.{◌≡◌, ℕ, zero, suc, ◌+◌, ◌-◌, ◌*◌, ◌/◌, ◌%◌, ◌^◌, ◌<◌, ◌≤◌, Bool, true, false, cond, eqb, leb, sym, refl, ap, ◌∙◌, inl, inr, le_trans, le_of_eq, mul-le-mul_right, eq-zero-or-pos, mul-le-mul, mul-le-mul_left, mul-pos, pow-suc, lt_of_not-le, mul_right_comm, le_of_mul-le-mul_right, mul_left_comm, arith, pow_mono, eqb-true, leb-false, leb-true}
use native.Mathlib.Nat.{mul-mul-mul_comm}
use lib.Ieee.{size}
use lib.Ieee.Digits.{size-lt}
use borrow.Author.Tests.{eqb-false}
use lib.Arith.{lt_of_le-ne}
use Rattle.numeric.proofs.Nearest.{Short}
use lib.Ieee.{root_below, root_twice}

-- r is the whole part of the root of n
abbrev pub WholeRoot : ℕ → ℕ → Type 0
WholeRoot r n = (r * r ≤ n) × (n < (r + 1) * (r + 1))

-- one more binary digit
digit : (r n : ℕ) (b : Bool) → WholeRoot r (n / 4) → leb ((2 * r + 1) * (2 * r + 1)) n ≡ b → WholeRoot (cond b (2 * r + 1) (2 * r)) n
digit r n true h e = (leb-true _ _ e, omega (arith, h.1))
digit r n false h e = (omega (arith, h.0), leb-false _ _ e)

digits : (k n : ℕ) → n < 2 ^ k → WholeRoot (root_below k n) n
unfolding root_below
digits zero n h = omega arith
digits (suc k) n h = digit (root_below k (n / 4)) n _ (digits k (n / 4) (omega arith)) refl

pub whole_root : (n : ℕ) → WholeRoot (root_below (size n) n) n
whole_root n = digits (size n) n (size-lt n)

-- numbers are in the order of their squares
lt_of_squares : (a b : ℕ) → a * a < b * b → a < b
lt_of_squares a b h = lt_of_not-le (λ (g : b ≤ a). omega (arith, mul-le-mul g g))

-- ---- an even number 2 t compares with `root_twice n` as the square of t does with n

-- s is 2 r where r is the root of n, and 2 r + 1 where r is only its whole part
record Twice (r s n : ℕ) : Type 0 where
  whole : WholeRoot r n
  least : 2 * r ≤ s
  most : s ≤ 2 * r + 1
  exact : s ≤ 2 * r → r * r ≡ n
  inexact : 2 * r < s → r * r < n

twice : (n : ℕ) → Twice (root_below (size n) n) (root_twice n) n
unfolding root_twice
twice n = let r = root_below (size n) n in go r (whole_root n) (eqb (r * r) n) (eqb-true (r * r) n) (eqb-false (r * r) n)
  where
    go : (r : ℕ) → WholeRoot r n → (b : Bool) → (b ≡ true → r * r ≡ n) → (b ≡ false → r * r ≡ n → ⊥) → Twice r (2 * r + cond b 0 1) n
    go r w true h k = record { whole = w; least = omega arith; most = omega arith; exact = λ l. h refl; inexact = λ l. absurd (omega arith) }
    go r w false h k = record { whole = w; least = omega arith; most = omega arith; exact = λ l. absurd (omega arith); inexact = λ l. lt_of_le-ne w.0 (k refl) }

within_square : (t n : ℕ) → 2 * t ≤ root_twice n → t * t ≤ n
within_square t n h =
    let w = twice n in
    let l : t ≤ root_below (size n) n = omega arith in
    omega (arith, mul-le-mul l l)

pub of_within : (t n : ℕ) → t * t ≤ n → 2 * t ≤ root_twice n
of_within t n h =
    let r = root_below (size n) n in
    let w = twice n in
    let l : t < r + 1 = lt_of_squares t (r + 1) (omega arith) in
    omega arith

beyond_square : (t n : ℕ) → root_twice n ≤ 2 * t → n ≤ t * t
beyond_square t n h =
    let r = root_below (size n) n in
    let w = twice n in
    elim (eq-zero-or-pos (t - r)) [
      | inl e ↦ let l : r ≤ t = omega arith in omega (arith, w.exact (omega arith), mul-le-mul l l)
      | inr p ↦ let l : r + 1 ≤ t = omega arith in omega (arith, mul-le-mul l l)
    ]

pub of_beyond : (t n : ℕ) → n ≤ t * t → root_twice n ≤ 2 * t
of_beyond t n h =
    let r = root_below (size n) n in
    let w = twice n in
    elim (eq-zero-or-pos (root_twice n - 2 * r)) [
      | inl e ↦ let l : r < t + 1 = lt_of_squares r (t + 1) (omega arith) in omega arith
      | inr p ↦ let l : r < t = lt_of_squares r t (omega (arith, w.inexact (omega arith))) in omega arith
    ]

-- ---- and for n = 4 w² q: M * 2 w compares with `root_twice n` as the square of M does with 4 q

module _ (w q : ℕ) (W : 0 < w) where
  abbrev n : ℕ
  n = 4 * (w * w) * q

  twofold : (M : ℕ) → 2 * (M * w) ≡ M * (2 * w)
  twofold M = mul_left_comm 2 M w

  squared : (M : ℕ) → M * w * (M * w) ≡ M * M * (w * w)
  squared M = mul-mul-mul_comm M w M w

  apart : n ≡ 4 * q * (w * w)
  apart = mul_right_comm 4 (w * w) q

  pub scaled_within : (M : ℕ) → M * (2 * w) ≤ root_twice n → M * M ≤ 4 * q
  scaled_within M h = le_of_mul-le-mul_right (le_trans (le_of_eq (sym (squared M))) (le_trans (within_square (M * w) n (le_trans (le_of_eq (twofold M)) h)) (le_of_eq apart))) (mul-pos W W)

  pub of_scaled_within : (M : ℕ) → M * M ≤ 4 * q → M * (2 * w) ≤ root_twice n
  of_scaled_within M h = le_trans (le_of_eq (sym (twofold M))) (of_within (M * w) n (le_trans (le_of_eq (squared M)) (le_trans (mul-le-mul_right (w * w) h) (le_of_eq (sym apart)))))

  pub scaled_beyond : (M : ℕ) → root_twice n ≤ M * (2 * w) → 4 * q ≤ M * M
  scaled_beyond M h = le_of_mul-le-mul_right (le_trans (le_of_eq (sym apart)) (le_trans (beyond_square (M * w) n (le_trans h (le_of_eq (sym (twofold M))))) (le_of_eq (squared M)))) (mul-pos W W)

  pub of_scaled_beyond : (M : ℕ) → 4 * q ≤ M * M → root_twice n ≤ M * (2 * w)
  of_scaled_beyond M h = le_trans (of_beyond (M * w) n (le_trans (le_of_eq apart) (le_trans (mul-le-mul_right (w * w) h) (le_of_eq (sym (squared M)))))) (le_of_eq (twofold M))

-- ---- the root of a number of p digits, with zeros after them, is such a number if it is whole

one_power : (p q : ℕ) → 0 < p → q < 2 ^ p → q * 2 < 2 ^ p * 2 ^ p
one_power p q P h =
    let a : 2 ^ p * 2 ≤ 2 ^ p * 2 ^ p = mul-le-mul_left (2 ^ p) (pow_mono {i = 1} {j = p} P) in
    omega arith

even_root : (M c : ℕ) → M * M ≡ 4 * c → M ≡ 2 * (M / 2)
even_root M c h =
    elim (eq-zero-or-pos (M % 2)) [
      | inl e ↦ omega arith
      | inr p ↦ let a : M ≡ 2 * (M / 2) + 1 = omega arith in absurd (impossible (M / 2) c (ap (λ (x : ℕ). x * x) (sym a) ∙ h))
    ]
  where
    impossible : (r c : ℕ) → (2 * r + 1) * (2 * r + 1) ≡ 4 * c → ⊥
    impossible r c h = omega arith

quarter : (r c : ℕ) → 2 * r * (2 * r) ≡ 4 * c → r * r ≡ c
quarter r c h = omega arith

pub halved : (M c : ℕ) → M * M ≡ 4 * c → (r : ℕ) × (M ≡ 2 * r) × (r * r ≡ c)
halved M c h = let e = even_root M c h in (M / 2, e, quarter (M / 2) c (ap (λ (x : ℕ). x * x) (sym e) ∙ h))

pub short_root : (p q k r : ℕ) → 0 < p → q < 2 ^ p → r * r ≡ q * 2 ^ k → Short p r
short_root p q zero r P h e = (r, 0, lt_of_squares r (2 ^ p) (omega (arith, one_power p q P h)), omega arith)
short_root p q (suc zero) r P h e = (r, 0, lt_of_squares r (2 ^ p) (omega (arith, one_power p q P h)), omega arith)
short_root p q (suc (suc k)) r P h e =
    let d = halved r (q * 2 ^ k) (e ∙ simp pow-suc (omega arith)) in
    double (short_root p q k d.0 P h d.2) d.1
  where
    double : {s : ℕ} → Short p s → r ≡ 2 * s → Short p r
    double (a, j, l, i) g = (a, suc j, l, simp pow-suc (omega arith))
