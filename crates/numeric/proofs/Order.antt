-- The order with the infinities: what is no NaN, what is no less than zero, and products of such values. Assumes nothing.
use Rattle.std.proofs.Common.{◌≡◌, ℕ, ◌+◌, ◌*◌, ◌/◌, ◌<◌, ◌≤◌, Bool, true, false, not, ◌&&◌, ◌||◌, T, eqb, ltb, ◌⊎◌, pos, refl, ap, ◌∙◌, subst, inl, inr, le_of_eq, lt_of_lt_of_le, lt_of_le_of_lt, le_of_lt, div-lt_iff_lt-mul, lt_of_mul-lt-mul_right, mul-lt-mul_of_pos_right, mul-pos, mul-zero, zero-mul, mul_right_comm, arith, eqb→eq, ltb→lt, nltb→le, T_not, pow_pos}
use mathlib.Core.Bool.{beq}
use lib.Dec.{eqb_refl}
use lib.Ieee.{Float, nan, inf, fin, Format, up, down, below, level, round, add, mul, div, le, lt, eq, is_nan}
use lib.Ieee.Scale.{finite}
use lib.Ieee.Positive.{den, den_pos}
use Rattle.numeric.proofs.Rounding.{pz, nz, ordered, or_l, P, N, Is, Le_of_le, le_of_Le, le_trans_f, rnd_mono, or_split, or_r, and_l, and_r, and_i}
use Rattle.numeric.proofs.Operations.{add_mono, mul_up, div-Is, either_sign}
use Rattle.numeric.proofs.Programs.{le_refl_f}

abbrev pub zero_f : Float
zero_f = fin false 0 (pos 0)

pub total : (x y : Float) → T (finite x) → T (finite y) → T (le x y) ⊎ T (le y x)
total x y p q = go (ltb (P y * den x + N x * den y) (P x * den y + N y * den x)) (ltb→lt (P y * den x + N x * den y) (P x * den y + N y * den x)) (nltb→le (P y * den x + N x * den y) (P x * den y + N y * den x))
  where
    go : (b : Bool) → (T b → P y * den x + N x * den y < P x * den y + N y * den x) → (T (not b) → P x * den y + N y * den x ≤ P y * den x + N x * den y) → T (le x y) ⊎ T (le y x)
    go true h k = inr (le_of_Le y x q p (le_of_lt (h tt)))
    go false h k = inl (le_of_Le x y p q (k tt))

pub le_inf : (x : Float) → T (not (is_nan x)) → T (le x (inf false))
unfolding le is_nan
le_inf nan h = absurd h
le_inf (inf true) h = tt
le_inf (inf false) h = tt
le_inf (fin s m e) h = tt

pub le_self : (x : Float) → T (not (is_nan x)) → T (le x x)
le_self nan h = absurd (unfold is_nan in h)
le_self (inf true) h = unfold le in tt
le_self (inf false) h = unfold le in tt
le_self (fin s m e) h = le_refl_f (fin s m e) tt

pub finite_number : (x : Float) → T (finite x) → T (not (is_nan x))
unfolding is_nan
finite_number nan h = absurd h
finite_number (inf s) h = tt
finite_number (fin s m e) h = tt

le_cases : (x y : Float) → T (le x y) → T (lt x y) ⊎ T (eq x y)
unfolding le
le_cases x y h = or_split (lt x y) (eq x y) h

level_swap : (s t : Bool) (a b : ℕ) → T (level s a t b) → T (level t b s a)
level_swap s t a b h = swap s t (eqb→eq a b (and_l (eqb a b) (beq s t || eqb a 0) h)) (and_r (eqb a b) (beq s t || eqb a 0) h)
  where
    same : a ≡ b → T (eqb b a)
    same e = subst (λ (z : ℕ). T (eqb z a)) e (eqb_refl a)

    swap : (s t : Bool) → a ≡ b → T (beq s t || eqb a 0) → T (eqb b a && (beq t s || eqb b 0))
    swap false false e k = and_i (eqb b a) true (same e) tt
    swap false true e k = and_i (eqb b a) (eqb b 0) (same e) (subst (λ (z : ℕ). T (eqb z 0)) e k)
    swap true false e k = and_i (eqb b a) (eqb b 0) (same e) (subst (λ (z : ℕ). T (eqb z 0)) e k)
    swap true true e k = and_i (eqb b a) true (same e) tt

eq-le : (x y : Float) → T (eq x y) → T (le y x)
unfolding eq le
eq-le nan y h = absurd h
eq-le (inf s) nan h = absurd h
eq-le (inf true) (inf true) h = tt
eq-le (inf true) (inf false) h = absurd h
eq-le (inf false) (inf true) h = absurd h
eq-le (inf false) (inf false) h = tt
eq-le (inf s) (fin t n d) h = absurd h
eq-le (fin s m e) nan h = absurd h
eq-le (fin s m e) (inf t) h = absurd h
eq-le (fin s m e) (fin t n d) h = or_r (lt (fin t n d) (fin s m e)) (level t (n * up d * down e) s (m * up e * down d)) (level_swap s t (m * up e * down d) (n * up d * down e) h)

-- of two numbers, the second is not above the first where the first is not below it
pub not_lt-le : (b x : Float) → T (not (is_nan b)) → T (not (is_nan x)) → T (not (lt b x)) → T (le x b)
not_lt-le nan x n k h = absurd (unfold is_nan in n)
not_lt-le (inf t) nan n k h = absurd (unfold is_nan in k)
not_lt-le (fin t m e) nan n k h = absurd (unfold is_nan in k)
not_lt-le (inf true) (inf true) n k h = unfold le in tt
not_lt-le (inf true) (inf false) n k h = absurd (unfold lt in h)
not_lt-le (inf false) (inf true) n k h = unfold le in tt
not_lt-le (inf false) (inf false) n k h = unfold le in tt
not_lt-le (inf true) (fin s i d) n k h = absurd (unfold lt in h)
not_lt-le (inf false) (fin s i d) n k h = unfold le in tt
not_lt-le (fin t m e) (inf true) n k h = unfold le in tt
not_lt-le (fin t m e) (inf false) n k h = absurd (unfold lt in h)
not_lt-le (fin t m e) (fin s i d) n k h = elim (total (fin s i d) (fin t m e) tt tt) [ inl w ↦ w | inr w ↦ flip (le_cases (fin t m e) (fin s i d) w) ]
  where
    flip : T (lt (fin t m e) (fin s i d)) ⊎ T (eq (fin t m e) (fin s i d)) → T (le (fin s i d) (fin t m e))
    flip (inl u) = absurd (T_not (lt (fin t m e) (fin s i d)) h u)
    flip (inr u) = eq-le (fin t m e) (fin s i d) u

pub lt-le : (a x : Float) → T (lt a x) → T (le a x)
unfolding le
lt-le a x h = or_l (lt a x) (eq a x) h

below_not : (s t : Bool) (a b : ℕ) → T (below s a t b) → pz t b + nz s a ≤ pz s a + nz t b → ⊥
below_not false false a b h k = let l = ltb→lt a b h in no a b l k
  where
    no : (a b : ℕ) → a < b → b + 0 ≤ a + 0 → ⊥
    no a b l k = omega arith
below_not false true a b h k = h
below_not true false a b h k = let l = ltb→lt 0 (a + b) h in no a b l k
  where
    no : (a b : ℕ) → 0 < a + b → b + a ≤ 0 + 0 → ⊥
    no a b l k = omega arith
below_not true true a b h k = let l = ltb→lt b a h in no a b l k
  where
    no : (a b : ℕ) → b < a → 0 + a ≤ 0 + b → ⊥
    no a b l k = omega arith

-- what is below is not at or above
pub lt_not_le : (a x : Float) → T (lt a x) → T (le x a) → ⊥
unfolding lt le
lt_not_le nan x h k = h
lt_not_le (inf s) nan h k = h
lt_not_le (fin s m e) nan h k = h
lt_not_le (inf true) (inf true) h k = h
lt_not_le (inf true) (inf false) h k = k
lt_not_le (inf false) (inf t) h k = h
lt_not_le (inf true) (fin t n d) h k = k
lt_not_le (inf false) (fin t n d) h k = h
lt_not_le (fin s m e) (inf true) h k = h
lt_not_le (fin s m e) (inf false) h k = k
lt_not_le (fin s m e) (fin t n d) h k = below_not s t (m * up e * down d) (n * up d * down e) h (ordered t s (n * up d * down e) (m * up e * down d) k)

-- what is bounded is no NaN
pub number_above : (a x : Float) → T (le a x) → T (not (is_nan x))
unfolding le is_nan
number_above nan nan h = absurd h
number_above (inf s) nan h = absurd h
number_above (fin s m e) nan h = absurd h
number_above a (inf s) h = tt
number_above a (fin s m e) h = tt

pub number_below : (x b : Float) → T (le x b) → T (not (is_nan x))
unfolding le is_nan
number_below nan b h = absurd h
number_below (inf s) b h = tt
number_below (fin s m e) b h = tt

-- where s keeps the order, a value whose image is not above that of b is not above b
pub under_by : (s : Float → Float) (b x : Float) → T (finite b) → T (finite x) → (T (le b x) → T (le (s b) (s x))) → T (not (le (s b) (s x))) → T (le x b)
under_by s b x B X mono h = elim (total x b X B) [ inl w ↦ w | inr w ↦ absurd (T_not (le (s b) (s x)) h (mono w)) ]

pub no_N : (m : Float) → T (finite m) → T (le zero_f m) → N m ≡ 0
no_N m M h =
    let g = Le_of_le zero_f m tt M h in
    elim (either_sign m) [ inl z ↦ z | inr z ↦ omega arith ]

zero_is : (f : Format) → Is f zero_f 0 0 1
zero_is lib.Ieee.binary32 = unfold round in inl (0, refl, refl)
zero_is lib.Ieee.binary64 = unfold round in inl (0, refl, refl)

-- a product of two finite values that are not negative; it may be infinite
pub mul_nonneg : (f : Format) (x y : Float) → T (finite x) → T (finite y) → T (le zero_f x) → T (le zero_f y) → T (le zero_f (mul f x y))
mul_nonneg f x y X Y h k =
    let z : P x * N y ≡ 0 = ap (λ (u : ℕ). P x * u) (no_N y Y k) ∙ mul-zero (P x) in
    rnd_mono f zero_f (mul f x y) 0 0 1 (P x * P y) (P x * N y) (den x * den y) (pow_pos 0) (mul-pos (den_pos x) (den_pos y)) (zero_is f) (mul_up f x y X Y (no_N x X h)) (omega arith)

-- a sum keeps the order in its first part where that may be infinite
pub add_from : (f : Format) (a x c : Float) → T (finite a) → T (finite c) → T (le a x) → T (le (add f a c) (add f x c))
unfolding add
add_from f a nan c A C h = absurd (T_not (is_nan nan) (number_above a nan h) (unfold is_nan in tt))
add_from f nan (inf s) c A C h = absurd A
add_from f (inf t) (inf s) c A C h = absurd A
add_from f (fin t m e) (inf true) c A C h = absurd (unfold le in h)
add_from f (fin t m e) (inf false) nan A C h = absurd C
add_from f (fin t m e) (inf false) (inf s) A C h = absurd C
add_from f (fin t m e) (inf false) (fin s n d) A C h = le_inf (add f (fin t m e) (fin s n d)) (sum_number f (fin t m e) (fin s n d) tt tt)
  where
    sum_number : (f : Format) (x y : Float) → T (finite x) → T (finite y) → T (not (is_nan (add f x y)))
    sum_number f x y X Y = number_above (add f x y) (add f x y) (add_mono f x x y y X X Y Y (le_refl_f x X) (le_refl_f y Y))
add_from f a (fin s m e) c A C h = add_mono f a (fin s m e) c c A tt C C h (le_refl_f c C)

-- the whole part of what is below n
pub whole_under : (y c : Float) (n : ℕ) → T (finite y) → T (finite c) → N y ≡ 0 → N c ≡ 0 → T (le y c) → P c < n * den c → P y / den y < n
whole_under y c n Y C z w h k =
    let l = Le_of_le y c Y C h in
    let a : N c * den y ≡ 0 = ap (λ (u : ℕ). u * den y) w ∙ zero-mul (den y) in
    let b : N y * den c ≡ 0 = ap (λ (u : ℕ). u * den c) z ∙ zero-mul (den c) in
    let p : P y * den c ≤ P c * den y = omega arith in
    let q : P y * den c < n * den y * den c = lt_of_le_of_lt p (lt_of_lt_of_le (mul-lt-mul_of_pos_right k (den_pos y)) (le_of_eq (mul_right_comm n (den c) (den y)))) in
    (div-lt_iff_lt-mul (den_pos y)).1 (lt_of_mul-lt-mul_right (den c) q)

-- no value lies above a and below b where a is above b
pub le_apart : (a x b : Float) → T (not (le a b)) → T (le a x) → T (le x b) → ⊥
le_apart a x b n h k = T_not (le a b) n (le_trans_f a x b h k)

-- what is at most b lies below a number that is not
pub le-lt : (y b c : Float) → T (not (is_nan c)) → T (le y b) → T (not (le c b)) → T (lt y c)
le-lt y b c n h k = go (lt y c) (λ (w : T (not (lt y c))). le_apart c y b k (not_lt-le y c (number_below y b h) n w) h)
  where
    go : (t : Bool) → (T (not t) → ⊥) → T t
    go true f = tt
    go false f = absurd (f tt)

-- a quotient of zero by a value above zero
pub zero_over : (f : Format) (y : Float) → T (finite y) → N y ≡ 0 → 0 < P y → T (le zero_f (div f zero_f y)) × T (le (div f zero_f y) zero_f)
zero_over f y Y z l =
    let d = P y * den zero_f in
    let D : 0 < d = mul-pos l (den_pos zero_f) in
    let i = div-Is f zero_f y tt Y z l in
    let e : P zero_f * den y ≡ 0 = zero-mul (den y) in (
      rnd_mono f zero_f (div f zero_f y) 0 0 1 (P zero_f * den y) (N zero_f * den y) d (pow_pos 0) D (zero_is f) i (omega arith),
      rnd_mono f (div f zero_f y) zero_f (P zero_f * den y) (N zero_f * den y) d 0 0 1 D (pow_pos 0) i (zero_is f) (omega arith),
    )
