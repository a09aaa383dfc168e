-- Scaling in steps: a step up is exact or overflows for good; a step down is exact, or what is left of it vanishes for good. Assumes nothing.
use Rattle.std.proofs.Common.{◌≡◌, ℕ, zero, suc, ◌+◌, ◌-◌, ◌*◌, ◌/◌, ◌^◌, ◌<◌, ◌≤◌, Bool, true, false, not, T, leb, ◌⊎◌, ℤ, pos, negsuc, sym, refl, ap, ◌∙◌, subst, inl, inr, suc-le-suc, le_trans, le_of_eq, lt_of_lt_of_le, lt_of_le_of_lt, mul-le-mul_right, zero-lt-suc, mul_assoc, mul_comm, div-lt_iff_lt-mul, add_comm, lt_of_mul-lt-mul_right, mul-le-mul_left, mul-lt-mul_of_pos_right, mul-pos, zero-mul, mul-one, mul_right_comm, arith, leb→le, pow_pos, pow_mono, pow-add, shl_lt}
use native.Mathlib.Nat.{mul-mul-mul_comm}
use lib.Dec.{nleb→lt}
use lib.Pow.{pow-lt}
use lib.Ieee.{Float, Format, nan, inf, fin, prec, emax, low, up, down, size, round, fits}
use lib.Ieee.Digits.{size-le, back}
use lib.Ieee.Exact.{HasValue, round_exact, units_val}
use lib.Ieee.Fits.{round_is, down_pos, two, two-le_pos, reach}
use lib.Ieee.Order.{kept, drop}
use lib.Ieee.Scale.{round_same, grid, overflow, normal_of_rounded}
use Rattle.numeric.proofs.Units.{fitting, power_in_units}
use Rattle.scaling.proofs.Ends.{overflows, vanishes}
use Rattle.scaling.proofs.Product.{product_of}

le_or_lt : (a b : ℕ) → (a ≤ b) ⊎ (b < a)
le_or_lt a b = go (leb a b) (leb→le a b) (nleb→lt a b)
  where
    go : (t : Bool) → (T t → a ≤ b) → (T (not t) → b < a) → (a ≤ b) ⊎ (b < a)
    go true h k = inl (h tt)
    go false h k = inr (k tt)

-- ---- a finite value in units of the format's smallest: m * 2 ^ i of them
pub record Units (f : Format) (m : ℕ) (e : ℤ) : Type 0 where
  pub i : ℕ
  pub is : m * up e * 2 ^ low f ≡ m * 2 ^ i * down e
  pub short : m < 2 ^ prec f
  pub under : m * 2 ^ i < overflow f

below_overflow : (f : Format) (m i : ℕ) (e : ℤ) → m * up e * 2 ^ low f ≡ m * 2 ^ i * down e → m * up e < 2 ^ suc (emax f) * down e → m * 2 ^ i < overflow f
below_overflow f m i e is h =
    lt_of_mul-lt-mul_right (down e)
    (subst (λ (z : ℕ). z < overflow f * down e) is
    (lt_of_lt_of_le (mul-lt-mul_of_pos_right h (pow_pos (low f)))
    (le_of_eq (mul_right_comm (2 ^ suc (emax f)) (down e) (2 ^ low f) ∙ ap (λ (z : ℕ). z * down e) (mul_comm (2 ^ suc (emax f)) (2 ^ low f) ∙ sym (pow-add 2 (low f) (suc (emax f))))))))

place : (f : Format) (m : ℕ) (e : ℤ) → down e ≤ 2 ^ low f → (i : ℕ) × (m * up e * 2 ^ low f ≡ m * 2 ^ i * down e)
place f m e h =
    let j = power_in_units (low f) e h in
    (j.0, mul_assoc m (up e) (2 ^ low f) ∙ ap (λ (z : ℕ). m * z) j.1 ∙ sym (mul_assoc m (2 ^ j.0) (down e)))

pub in_units : (f : Format) (s : Bool) (m : ℕ) (e : ℤ) → T (fits f (fin s m e)) → Units f m e
unfolding fits
in_units f s zero e h = record {
  i = 0;
  is = ap (λ (z : ℕ). z * 2 ^ low f) (zero-mul (up e)) ∙ zero-mul (2 ^ low f) ∙ sym (ap (λ (z : ℕ). z * down e) (zero-mul (2 ^ 0)) ∙ zero-mul (down e));
  short = pow_pos (prec f);
  under = subst (λ (z : ℕ). z < overflow f) (sym (zero-mul (2 ^ 0))) (pow_pos (low f + suc (emax f)));
}
in_units f s (suc m) e h =
    let fit = fitting f s m e h in
    let at = place f (suc m) e fit.fine in
    record { i = at.0; is = at.1; short = fit.short; under = below_overflow f (suc m) at.0 e at.1 fit.under }

-- ---- scaling a value that is known as a fraction
pub by_value : (f : Format) (y : Float) (s : Bool) (a c : ℕ) (n : ℤ) → 0 < c → HasValue y s a c → product_of f y n ≡ round f s (a * up n) (c * down n)
unfolding product_of
by_value f nan s a c n C v = absurd v
by_value f (inf t) s a c n C v = absurd v
by_value f (fin t m e) s a c n C v =
    ap (λ (z : Bool). round f z (m * up e * up n) (down e * down n)) v.0
    ∙ round_same f s (m * up e * up n) (down e * down n) (a * up n) (c * down n) (mul-pos (down_pos e) (down_pos n)) (mul-pos C (down_pos n))
    (mul-mul-mul_comm (m * up e) (up n) c (down n) ∙ ap (λ (z : ℕ). z * (up n * down n)) v.1 ∙ mul-mul-mul_comm a (down e) (up n) (down n))

inf_stays : (f : Format) (s : Bool) (n : ℤ) → product_of f (inf s) n ≡ inf s
unfolding product_of
inf_stays f s n = refl

-- ---- up
exact_up : (f : Format) (s : Bool) (m : ℕ) (e : ℤ) (k : ℕ) → Units f m e → m * up e * 2 ^ k < 2 ^ suc (emax f) * (down e * 1) → HasValue (round f s (m * up e * 2 ^ k) (down e * 1)) s (m * up e * 2 ^ k) (down e * 1)
exact_up f s m e k u h =
    let i = u.i in
    let one : down e * 1 ≡ down e = mul-one (down e) in
    let w : m * up e * 2 ^ k * 2 ^ low f ≡ m * 2 ^ (i + k) * (down e * 1) =
    mul_right_comm (m * up e) (2 ^ k) (2 ^ low f) ∙ ap (λ (z : ℕ). z * 2 ^ k) u.is ∙ mul_right_comm (m * 2 ^ i) (down e) (2 ^ k)
    ∙ ap (λ (z : ℕ). z * down e) (mul_assoc m (2 ^ i) (2 ^ k) ∙ ap (λ (z : ℕ). m * z) (sym (pow-add 2 i k))) ∙ ap (λ (z : ℕ). m * 2 ^ (i + k) * z) (sym one) in
    let fine : m * 2 ^ (i + k) < overflow f =
    lt_of_mul-lt-mul_right (down e * 1)
    (subst (λ (z : ℕ). z < overflow f * (down e * 1)) w
    (lt_of_lt_of_le (mul-lt-mul_of_pos_right h (pow_pos (low f)))
    (le_of_eq (mul_right_comm (2 ^ suc (emax f)) (down e * 1) (2 ^ low f) ∙ ap (λ (z : ℕ). z * (down e * 1)) (mul_comm (2 ^ suc (emax f)) (2 ^ low f) ∙ sym (pow-add 2 (low f) (suc (emax f)))))))) in
    round_exact f s (m * up e * 2 ^ k) (down e * 1) m (i + k) (mul-pos (down_pos e) (pow_pos 0)) u.short fine w

up_finite : (f : Format) (s : Bool) (m : ℕ) (e : ℤ) (k n : ℕ) → Units f m e → product_of f (round f s (m * up e * 2 ^ k) (down e * 1)) (pos n) ≡ round f s (m * up e * 2 ^ (k + n)) (down e * 1)
up_finite f s m e k n u =
    let a = m * up e * 2 ^ k in
    let c = down e * 1 in
    let C : 0 < c = mul-pos (down_pos e) (pow_pos 0) in
    let joined : a * 2 ^ n ≡ m * up e * 2 ^ (k + n) = mul_assoc (m * up e) (2 ^ k) (2 ^ n) ∙ ap (λ (z : ℕ). m * up e * z) (sym (pow-add 2 k n)) in
    elim (le_or_lt (2 ^ suc (emax f) * c) a) [
      | inl big ↦
          ap (λ (y : Float). product_of f y (pos n)) (overflows f s a c C big) ∙ inf_stays f s (pos n)
          ∙ sym (overflows f s (m * up e * 2 ^ (k + n)) c C (le_trans big (le_trans (le_of_eq (sym (mul-one a))) (le_trans (mul-le-mul_left a (pow_pos n)) (le_of_eq joined)))))
      | inr fine ↦
          by_value f (round f s a c) s a c (pos n) C (exact_up f s m e k u fine)
          ∙ ap (λ (z : ℕ). round f s z (c * 1)) joined ∙ ap (λ (z : ℕ). round f s (m * up e * 2 ^ (k + n)) z) (mul-one c)
    ]

pub up_step : (f : Format) (x : Float) (k n : ℕ) → T (fits f x) → product_of f (product_of f x (pos k)) (pos n) ≡ product_of f x (pos (k + n))
unfolding product_of
up_step f nan k n h = refl
up_step f (inf s) k n h = refl
up_step f (fin s m e) k n h = up_finite f s m e k n (in_units f s m e h)

-- ---- down: by k, then by n, more than the format's digits
exact_down : (f : Format) (s : Bool) (m : ℕ) (e : ℤ) (k : ℕ) (u : Units f m e) → k ≤ u.i → HasValue (round f s (m * up e * 1) (down e * 2 ^ k)) s (m * up e * 1) (down e * 2 ^ k)
exact_down f s m e k u h =
    let i = u.i in
    let split : m * 2 ^ (i - k) * 2 ^ k ≡ m * 2 ^ i = mul_assoc m (2 ^ (i - k)) (2 ^ k) ∙ ap (λ (z : ℕ). m * z) (sym (pow-add 2 (i - k) k) ∙ ap (λ (z : ℕ). 2 ^ z) (back i k h)) in
    round_exact f s (m * up e * 1) (down e * 2 ^ k) m (i - k) (mul-pos (down_pos e) (pow_pos k)) u.short
    (lt_of_le_of_lt (le_trans (le_of_eq (sym (mul-one (m * 2 ^ (i - k))))) (le_trans (mul-le-mul_left (m * 2 ^ (i - k)) (pow_pos k)) (le_of_eq split))) u.under)
    (ap (λ (z : ℕ). z * 2 ^ low f) (mul-one (m * up e)) ∙ u.is ∙ ap (λ (z : ℕ). z * down e) (sym split) ∙ mul_assoc (m * 2 ^ (i - k)) (2 ^ k) (down e) ∙ ap (λ (z : ℕ). m * 2 ^ (i - k) * z) (mul_comm (2 ^ k) (down e)))

-- the value of any rounding that does not overflow
round_value : (f : Format) (s : Bool) (a c : ℕ) → grid f a c < overflow f → HasValue (round f s a c) s (grid f a c) (2 ^ low f)
round_value f s a c h = subst (λ (z : Float). HasValue z s (grid f a c) (2 ^ low f)) (sym (round_is f s a c)) (units_val f s (kept (prec f) (a * 2 ^ low f) c) (drop (prec f) (a * 2 ^ low f) c) h)

-- a fraction of fewer than 2 ^ (prec - 1) units rounds to no more than that
small_grid : (f : Format) (a c : ℕ) → 0 < c → a * 2 ^ low f < 2 ^ (prec f - 1) * c → grid f a c ≤ 2 ^ (prec f - 1)
small_grid f a c C h =
    elim (le_or_lt (grid f a c) (2 ^ (prec f - 1))) [
      | inl l ↦ l
      | inr g ↦ absurd (clash (prec f) (size (a * 2 ^ low f / c)) (two-le_pos (prec f) (two f)) (normal_of_rounded f a c g) (size-le (a * 2 ^ low f / c) (prec f - 1) ((div-lt_iff_lt-mul C).1 h)))
    ]
  where
    clash : (p z : ℕ) → 0 < p → p ≤ z → z ≤ p - 1 → ⊥
    clash p z P x y = omega arith

tiny : (f : Format) (s : Bool) (m : ℕ) (e : ℤ) (k n : ℕ) (u : Units f m e) → u.i < k → prec f < n → m * up e * 1 * 2 ^ low f * 2 < down e * 2 ^ (k + n)
tiny f s m e k n u h p =
    let i = u.i in
    let w : m * up e * 1 * 2 ^ low f * 2 ≡ m * 2 ^ i * 2 * down e = ap (λ (z : ℕ). z * 2 ^ low f * 2) (mul-one (m * up e)) ∙ ap (λ (z : ℕ). z * 2) u.is ∙ mul_right_comm (m * 2 ^ i) (down e) 2 in
    let v : m * 2 ^ i * 2 < 2 ^ (k + n) = lt_of_lt_of_le (shl_lt (prec f + i) 1 (shl_lt (prec f) i u.short)) (pow_mono (room (prec f) i k n h p)) in
    subst (λ (z : ℕ). z < down e * 2 ^ (k + n)) (sym w) (lt_of_lt_of_le (mul-lt-mul_of_pos_right v (down_pos e)) (le_of_eq (mul_comm (2 ^ (k + n)) (down e))))
  where
    room : (p i k n : ℕ) → i < k → p < n → p + i + 1 ≤ k + n
    room p i k n x y = omega arith

few_units : (f : Format) (m : ℕ) (e : ℤ) (k : ℕ) (u : Units f m e) → u.i < k → m * up e * 1 * 2 ^ low f < 2 ^ (prec f - 1) * (down e * 2 ^ k)
few_units f m e k u h =
    let i = u.i in
    let w : m * up e * 1 * 2 ^ low f ≡ m * 2 ^ i * down e = ap (λ (z : ℕ). z * 2 ^ low f) (mul-one (m * up e)) ∙ u.is in
    let v : m * 2 ^ i < 2 ^ (prec f - 1) * 2 ^ k = lt_of_lt_of_le (shl_lt (prec f) i u.short) (le_trans (pow_mono (room (prec f) i k h (two-le_pos (prec f) (two f)))) (le_of_eq (pow-add 2 (prec f - 1) k))) in
    subst (λ (z : ℕ). z < 2 ^ (prec f - 1) * (down e * 2 ^ k)) (sym w)
    (lt_of_lt_of_le (mul-lt-mul_of_pos_right v (down_pos e)) (le_of_eq (mul_assoc (2 ^ (prec f - 1)) (2 ^ k) (down e) ∙ ap (λ (z : ℕ). 2 ^ (prec f - 1) * z) (mul_comm (2 ^ k) (down e)))))
  where
    room : (p i k : ℕ) → i < k → 0 < p → p + i ≤ p - 1 + k
    room p i k x y = omega arith

gone : (f : Format) (s : Bool) (G n : ℕ) → G ≤ 2 ^ (prec f - 1) → prec f < n → round f s (G * 1) (2 ^ low f * 2 ^ n) ≡ fin s 0 (pos 0)
gone f s G n g p =
    vanishes f s (G * 1) (2 ^ low f * 2 ^ n)
    (subst (λ (z : ℕ). z < 2 ^ low f * 2 ^ n) (sym (ap (λ (z : ℕ). z * 2 ^ low f * 2) (mul-one G) ∙ mul_right_comm G (2 ^ low f) 2))
    (lt_of_lt_of_le (mul-lt-mul_of_pos_right v (pow_pos (low f))) (le_of_eq (mul_comm (2 ^ n) (2 ^ low f)))))
  where
    room : (p n : ℕ) → p < n → 0 < p → p - 1 + 1 < n
    room p n x y = omega arith

    v : G * 2 < 2 ^ n
    v = lt_of_le_of_lt (le_trans (mul-le-mul_right 2 g) (le_of_eq (sym (pow-add 2 (prec f - 1) 1)))) (pow-lt (room (prec f) n p (two-le_pos (prec f) (two f))))

down_finite : (f : Format) (s : Bool) (m : ℕ) (e : ℤ) (k n : ℕ) → prec f < suc n → Units f m e → product_of f (round f s (m * up e * 1) (down e * 2 ^ k)) (negsuc n) ≡ round f s (m * up e * 1) (down e * 2 ^ (k + suc n))
down_finite f s m e k n p u =
    let a = m * up e * 1 in
    let c = down e * 2 ^ k in
    let C : 0 < c = mul-pos (down_pos e) (pow_pos k) in
    elim (le_or_lt k u.i) [
      | inl l ↦
          by_value f (round f s a c) s a c (negsuc n) C (exact_down f s m e k u l)
          ∙ ap (λ (z : ℕ). round f s z (c * 2 ^ suc n)) (mul-one a)
          ∙ ap (λ (z : ℕ). round f s a z) (mul_assoc (down e) (2 ^ k) (2 ^ suc n) ∙ ap (λ (z : ℕ). down e * z) (sym (pow-add 2 k (suc n))))
      | inr g ↦
          let G = small_grid f a c C (few_units f m e k u g) in
          by_value f (round f s a c) s (grid f a c) (2 ^ low f) (negsuc n) (pow_pos (low f)) (round_value f s a c (lt_of_le_of_lt G (pow-lt (inside (prec f) (low f) (emax f) (two-le_pos (prec f) (two f)) (reach f)))))
          ∙ gone f s (grid f a c) (suc n) G p
          ∙ sym (vanishes f s a (down e * 2 ^ (k + suc n)) (tiny f s m e k (suc n) u g p))
    ]
  where
    inside : (p l x : ℕ) → 0 < p → p ≤ suc x → p - 1 < l + suc x
    inside p l x a b = omega arith

pub down_step : (f : Format) (x : Float) (k n : ℕ) → T (fits f x) → prec f < suc n → product_of f (product_of f x (negsuc k)) (negsuc n) ≡ product_of f x (negsuc (suc k + n))
unfolding product_of
down_step f nan k n h p = refl
down_step f (inf s) k n h p = refl
down_step f (fin s m e) k n h p = down_finite f s m e (suc k) n p (in_units f s m e h) ∙ ap (λ (z : ℕ). round f s (m * up e * 1) (down e * 2 ^ z)) (moved (suc k) n)
  where
    moved : (a b : ℕ) → a + suc b ≡ suc (a + b)
    moved a b = omega arith

-- ---- far out every further step changes nothing
pub zero_stays : (f : Format) (s : Bool) (e : ℤ) (u d : ℕ) → 0 < d → round f s (0 * up e * u) (down e * d) ≡ fin s 0 (pos 0)
zero_stays f s e u d D =
    vanishes f s (0 * up e * u) (down e * d)
    (subst (λ (z : ℕ). z < down e * d) (sym (ap (λ (z : ℕ). z * u * 2 ^ low f * 2) (zero-mul (up e)) ∙ ap (λ (z : ℕ). z * 2 ^ low f * 2) (zero-mul u) ∙ ap (λ (z : ℕ). z * 2) (zero-mul (2 ^ low f)))) (mul-pos (down_pos e) D))

top_finite : (f : Format) (s : Bool) (m : ℕ) (e : ℤ) (n : ℕ) → 0 < m → low f + suc (emax f) ≤ n → Units f m e → round f s (m * up e * 2 ^ n) (down e * 1) ≡ inf s
top_finite f s m e n M h u =
    let i = u.i in
    let r = n - low f in
    let w : m * up e * 2 ^ n ≡ m * 2 ^ i * (2 ^ r * down e) =
    ap (λ (z : ℕ). m * up e * z) (ap (λ (z : ℕ). 2 ^ z) (sym (back n (low f) (lower (low f) (suc (emax f)) n h)) ∙ add_comm r (low f)) ∙ pow-add 2 (low f) r)
    ∙ sym (mul_assoc (m * up e) (2 ^ low f) (2 ^ r)) ∙ ap (λ (z : ℕ). z * 2 ^ r) u.is ∙ mul_assoc (m * 2 ^ i) (down e) (2 ^ r) ∙ ap (λ (z : ℕ). m * 2 ^ i * z) (mul_comm (down e) (2 ^ r)) in
    overflows f s (m * up e * 2 ^ n) (down e * 1) (mul-pos (down_pos e) (pow_pos 0))
    (le_trans (le_of_eq (ap (λ (z : ℕ). 2 ^ suc (emax f) * z) (mul-one (down e))))
    (le_trans (mul-le-mul_right (down e) (pow_mono (rest (low f) (suc (emax f)) n h)))
    (le_trans (le_of_eq (sym (mul-one (2 ^ r * down e)) ∙ mul_comm (2 ^ r * down e) 1)) (le_trans (mul-le-mul_right (2 ^ r * down e) (mul-pos M (pow_pos i))) (le_of_eq (sym w))))))
  where
    lower : (l x n : ℕ) → l + x ≤ n → l ≤ n
    lower l x n g = omega arith

    rest : (l x n : ℕ) → l + x ≤ n → x ≤ n - l
    rest l x n g = omega arith

-- from 2 ^ (low + emax + 1) on, what is not zero overflows
pub top_same : (f : Format) (x : Float) (n k : ℕ) → low f + suc (emax f) ≤ n → low f + suc (emax f) ≤ k → T (fits f x) → product_of f x (pos n) ≡ product_of f x (pos k)
unfolding product_of
top_same f nan n k h g t = refl
top_same f (inf s) n k h g t = refl
top_same f (fin s zero e) n k h g t = zero_stays f s e (2 ^ n) 1 (pow_pos 0) ∙ sym (zero_stays f s e (2 ^ k) 1 (pow_pos 0))
top_same f (fin s (suc m) e) n k h g t =
    let u = in_units f s (suc m) e t in
    top_finite f s (suc m) e n (zero-lt-suc m) h u ∙ sym (top_finite f s (suc m) e k (zero-lt-suc m) g u)

bottom_finite : (f : Format) (s : Bool) (m : ℕ) (e : ℤ) (n : ℕ) → low f + suc (emax f) < n → Units f m e → round f s (m * up e * 1) (down e * 2 ^ n) ≡ fin s 0 (pos 0)
bottom_finite f s m e n h u =
    let i = u.i in
    let w : m * up e * 1 * 2 ^ low f * 2 ≡ m * 2 ^ i * 2 * down e = ap (λ (z : ℕ). z * 2 ^ low f * 2) (mul-one (m * up e)) ∙ ap (λ (z : ℕ). z * 2) u.is ∙ mul_right_comm (m * 2 ^ i) (down e) 2 in
    let v : m * 2 ^ i * 2 < 2 ^ n = lt_of_lt_of_le (shl_lt (low f + suc (emax f)) 1 u.under) (pow_mono (room (low f + suc (emax f)) n h)) in
    vanishes f s (m * up e * 1) (down e * 2 ^ n) (subst (λ (z : ℕ). z < down e * 2 ^ n) (sym w) (lt_of_lt_of_le (mul-lt-mul_of_pos_right v (down_pos e)) (le_of_eq (mul_comm (2 ^ n) (down e)))))
  where
    room : (l n : ℕ) → l < n → l + 1 ≤ n
    room l n g = omega arith

-- and from 2 ^ - (low + emax + 2) down everything finite vanishes
pub bottom_same : (f : Format) (x : Float) (n k : ℕ) → low f + suc (emax f) ≤ n → low f + suc (emax f) ≤ k → T (fits f x) → product_of f x (negsuc n) ≡ product_of f x (negsuc k)
unfolding product_of
bottom_same f nan n k h g t = refl
bottom_same f (inf s) n k h g t = refl
bottom_same f (fin s m e) n k h g t =
    let u = in_units f s m e t in
    bottom_finite f s m e (suc n) (suc-le-suc h) u ∙ sym (bottom_finite f s m e (suc k) (suc-le-suc g) u)
