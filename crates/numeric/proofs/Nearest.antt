-- Of all values of a format the rounded one is the nearest: no other lies nearer to the fraction that was rounded.
-- Values are counted in units of the format's smallest one, as `grid` counts the rounded value. Assumes nothing.
use Rattle.std.proofs.Common.{◌≡◌, ℕ, suc, ◌+◌, ◌-◌, ◌*◌, ◌/◌, ◌%◌, ◌^◌, ◌<◌, ◌≤◌, not, T, eqb, ◌⊎◌, sym, ap, ◌∙◌, subst, inl, inr, le_trans, le_of_eq, lt_of_lt_of_le, mul-le-mul_right, mod-lt, mul_assoc, suc-mul, mul_comm, add-mul, eq-zero-or-pos, lt_of_mul-lt-mul_right, eq-or-lt_of_le, mul-pos, div-add-mod', le-div_iff_mul-le, not-le_of_lt, mul_left_comm, arith, eqb→eq, leb→le, pow_pos, pow_mono, pow-add, shl_lt}
use Prim.Native.Nat.{compare, Ordering}
use lib.Dec.{is_le, compare_is_eq, nleb→lt, eqb_refl}
use lib.Arith.{lt_of_le-ne}
use lib.Ieee.{Format, prec, low, nearest}
use lib.Ieee.Digits.{size_reaches, back}
use lib.Ieee.Fits.{two, two-le_pos}
use lib.Ieee.Nearest.{closest, nearest-ge}
use lib.Ieee.Order.{drop, kept}
use lib.Ieee.Scale.{grid}

-- ---- the nearest whole number to a / b is at most a half away

abbrev Compared : Ordering → ℕ → ℕ → Type 0
Compared Ordering.lt a b = a < b
Compared Ordering.eq a b = a ≡ b
Compared Ordering.gt a b = b < a

compared : (a b : ℕ) → Compared (compare a b) a b
compared a b = go (compare a b) (leb→le a b) (nleb→lt a b) (eqb→eq a b) (λ (e : a ≡ b). subst (λ (x : ℕ). T (eqb a x)) e (eqb_refl a))
  where
    go : (o : Ordering) → (T (is_le o) → a ≤ b) → (T (not (is_le o)) → b < a) → (T (compare_is_eq o) → a ≡ b) → (a ≡ b → T (compare_is_eq o)) → Compared o a b
    go Ordering.lt h k e n = lt_of_le-ne (h tt) n
    go Ordering.eq h k e n = e tt
    go Ordering.gt h k e n = k tt

-- w is at most a half away from a / b
abbrev pub WithinHalf : ℕ → ℕ → ℕ → Type 0
WithinHalf w a b = (w * b * 2 ≤ a * 2 + b) × (a * 2 ≤ w * b * 2 + b)

by_rest : (o : Ordering) (q r b : ℕ) → Compared o (r * 2) b → r < b → WithinHalf (nearest q o) (q * b + r) b
by_rest Ordering.lt q r b h l = ((omega arith), (omega arith))
by_rest Ordering.gt q r b h l = let e = suc-mul q b in ((omega arith), (omega arith))
by_rest Ordering.eq q r b h l =
    let d = add-mul q (q % 2) b in
    let m : q % 2 * b ≤ 1 * b = mul-le-mul_right b (omega arith) in
    ((omega arith), (omega arith))

pub within_half : (a b : ℕ) → 0 < b → WithinHalf (closest a b) a b
within_half a b B = subst (λ (z : ℕ). WithinHalf (closest a b) z b) (div-add-mod' a b) (by_rest (compare (a % b * 2) b) (a / b) (a % b) b (compared (a % b * 2) b) (mod-lt a B))

-- ---- where values of the format lie

-- Z has at most p binary digits, and zeros after them
abbrev pub Short : ℕ → ℕ → Type 0
Short p Z = (q : ℕ) × (j : ℕ) × (q < 2 ^ p) × (Z ≡ q * 2 ^ j)

-- such a number is a multiple of 2 ^ k, or it has fewer than p + k digits
multiple_or_less : (p k Z : ℕ) → 0 < p → Short p Z → ((t : ℕ) × (Z ≡ t * 2 ^ k)) ⊎ ((0 < k) × (Z < 2 ^ (p - 1) * 2 ^ k))
multiple_or_less p k Z P (q, j, small, e) =
    elim (eq-zero-or-pos (k - j)) [
      | inl h ↦ inl (q * 2 ^ (j - k), e ∙ ap (λ (x : ℕ). q * x) (sym (ap (λ (x : ℕ). 2 ^ x) (back j k (omega arith))) ∙ pow-add 2 (j - k) k) ∙ sym (mul_assoc q (2 ^ (j - k)) (2 ^ k)))
      | inr h ↦
          inr (
            omega arith,
            subst (λ (x : ℕ). x < 2 ^ (p - 1) * 2 ^ k) (sym e)
                (lt_of_lt_of_le (shl_lt p j small) (le_trans (pow_mono {i = p + j} {j = p - 1 + k} (omega arith)) (le_of_eq (pow-add 2 (p - 1) k)))),
          )
    ]

-- where digits are dropped, the fraction has p + drop digits
reached : (p n c : ℕ) → 0 < p → 0 < c → 0 < drop p n c → 2 ^ (p - 1) * 2 ^ drop p n c * c ≤ n
reached p n c P C K =
    (le-div_iff_mul-le C).0
    (le_trans (le_of_eq (sym (pow-add 2 (p - 1) (drop p n c)))) (size_reaches (n / c) (p - 1 + drop p n c) (omega arith)))

-- ---- n / c, rounded to K * u, and another value Z

module _ (n c u K : ℕ) (near : WithinHalf K n (c * u)) where
  sides : K * (c * u) ≡ K * u * c
  sides = simp (mul_assoc, mul_comm, mul_left_comm)

  unit_below : (Z : ℕ) → Z + u ≤ K * u → (K * u + Z) * c ≤ n * 2
  unit_below Z h =
      let e = sides in
      let d = add-mul (K * u) Z c in
      let g : (Z + u) * c ≤ K * u * c = mul-le-mul_right c h in
      let i = add-mul Z u c in
      let k = mul_comm c u in
      omega (arith, near.0)

  unit_above : (Z : ℕ) → K * u + u ≤ Z → n * 2 ≤ (K * u + Z) * c
  unit_above Z h =
      let e = sides in
      let d = add-mul (K * u) Z c in
      let g : (K * u + u) * c ≤ Z * c = mul-le-mul_right c h in
      let i = add-mul (K * u) u c in
      let k = mul_comm c u in
      omega (arith, near.1)

  -- for multiples of u
  multiple_below : (t : ℕ) → t * u < K * u → (K * u + t * u) * c ≤ n * 2
  multiple_below t h = unit_below (t * u) (le_trans (le_of_eq (sym (suc-mul t u))) (mul-le-mul_right u (lt_of_mul-lt-mul_right u h)))

  multiple_above : (t : ℕ) → K * u < t * u → n * 2 ≤ (K * u + t * u) * c
  multiple_above t h = unit_above (t * u) (le_trans (le_of_eq (sym (suc-mul K u))) (mul-le-mul_right u (lt_of_mul-lt-mul_right u h)))

  -- for what lies below H * u, which neither n / c nor K * u does
  less_below : (H Z : ℕ) → H * u * c ≤ n → H ≤ K → Z < H * u → (K * u + Z) * c ≤ n * 2
  less_below H Z r l h =
      elim (eq-or-lt_of_le l) [
        | inl e ↦
            let a : K * u * c ≤ n = subst (λ (x : ℕ). x * u * c ≤ n) e r in
            let b : Z * c ≤ H * u * c = mul-le-mul_right c (omega arith) in
            let d = add-mul (K * u) Z c in
            omega arith
        | inr g ↦ let a : suc H * u ≤ K * u = mul-le-mul_right u g in let b = suc-mul H u in unit_below Z (omega arith)
      ]

-- ---- the rounded value G, and another one

abbrev pub Nearest : ℕ → ℕ → ℕ → ℕ → Type 0
Nearest n c G Z = (Z < G → (G + Z) * c ≤ n * 2) × (G < Z → n * 2 ≤ (G + Z) * c)

kept_nearest : (p n c Z : ℕ) → 0 < p → 0 < c → Short p Z → Nearest n c (kept p n c * 2 ^ drop p n c) Z
kept_nearest p n c Z P C S =
    let u = 2 ^ drop p n c in
    let K = kept p n c in
    let near : WithinHalf K n (c * u) = within_half n (c * u) (mul-pos C (pow_pos (drop p n c))) in
    elim (multiple_or_less p (drop p n c) Z P S) [
      | inl (t, e) ↦
          subst (λ (x : ℕ). Nearest n c (K * u) x) (sym e) (multiple_below n c u K near t, multiple_above n c u K near t)
      | inr (k, l) ↦
          let H = 2 ^ (p - 1) in
          let r : H * u * c ≤ n = reached p n c P C k in
          let r' : H * (c * u) ≤ n = le_trans (le_of_eq (simp (mul_assoc, mul_comm, mul_left_comm))) r in
          let g : H ≤ K = le_trans ((le-div_iff_mul-le (mul-pos C (pow_pos (drop p n c)))).1 r') (nearest-ge (n / (c * u)) (compare (n % (c * u) * 2) (c * u))) in
          (λ (h : Z < K * u). less_below n c u K near H Z r g l, λ (h : K * u < Z). absurd (not-le_of_lt (lt_of_lt_of_le l (mul-le-mul_right u g)) (omega arith)))
    ]

pub round_nearest : (f : Format) (a c Z : ℕ) → 0 < c → Short (prec f) Z → Nearest (a * 2 ^ low f) c (grid f a c) Z
round_nearest f a c Z C S = kept_nearest (prec f) (a * 2 ^ low f) c Z (two-le_pos (prec f) (two f)) C S
