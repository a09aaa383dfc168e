-- Bit patterns, signs and sizes: a pattern's rest below the sign bit is the size's pattern, and sizes are ordered as their patterns. Assumes nothing.
use Rattle.std.proofs.Common.{◌≡◌, ℕ, zero, suc, ◌+◌, ◌-◌, ◌*◌, ◌/◌, ◌%◌, ◌^◌, ◌<◌, ◌≤◌, Bool, true, false, not, ◌&&◌, ◌||◌, T, eqb, ltb, leb, sym, refl, ap, ◌∙◌, subst, inl, inr, true≢false, lt_trans, lt_irrefl, mod-eq_of_lt, zero-lt-suc, eq-or-lt_of_le, mul-pos, one-mul, mul-one, not-le_of_lt, arith, lit≤, le→leb, eqb→eq, ltb→lt, leb→le, nltb→le, pow_pos, ne_eqb}
use native.Mathlib.Nat.{add-mod_left}
use mathlib.Core.Bool.{beq}
use lib.Dec.{not_T}
use lib.Ieee.{Float, nan, inf, fin, Format, binary64, prec, low, size, up, down, hid, ones, top, neg, le, lt, eq, is_nan, fits, to_bits, of_bits}
use lib.Ieee.Fits.{neg-fits}
use lib.Ieee.Bits.{is_true, is_false, of_bits-to_bits, to_bits-lt, nan_bits_is, nan_bits_above}
use Rattle.std.specs.Float.{is_sign_negative, float_with_sign}
use Rattle.numeric.proofs.Rounding.{neg-neg, neg-le, le_trans_f, le_of_Le}
use Rattle.numeric.proofs.Intervals.{mk, In, above_parts}
use lib.Pow.{pow-lt}
use lib.Ieee.Scale.{finite}
use lib.Ieee.Positive.{positive}
use Rattle.numeric.proofs.Order.{le_inf, finite_number, number_below, not_lt-le, lt_not_le}
use Rattle.numeric.proofs.Patterns.{of_bits_mono, of_bits_finite, of_bits_order}

abbrev pub mag : Float → Float
mag x = float_with_sign false x

-- ---- the sign, and the rest
pub mag_plain : (x : Float) → is_sign_negative x ≡ false → mag x ≡ x
unfolding is_sign_negative float_with_sign
mag_plain nan h = refl
mag_plain (inf s) h = ap inf (sym h)
mag_plain (fin s m e) h = ap (λ (t : Bool). fin t m e) (sym h)

pub mag_turned : (x : Float) → is_sign_negative x ≡ true → neg (mag x) ≡ x
unfolding is_sign_negative float_with_sign neg
mag_turned nan h = refl
mag_turned (inf s) h = ap inf (sym h)
mag_turned (fin s m e) h = ap (λ (t : Bool). fin t m e) (sym h)

pub mag_sign : (x : Float) → is_sign_negative (mag x) ≡ false
unfolding is_sign_negative float_with_sign
mag_sign nan = refl
mag_sign (inf t) = refl
mag_sign (fin t m e) = refl

pub mag_fits : (f : Format) (x : Float) → T (fits f x) → T (fits f (mag x))
mag_fits f nan h = unfold float_with_sign in h
mag_fits f (inf s) h = unfold float_with_sign fits in tt
mag_fits f (fin false m e) h = unfold float_with_sign in h
mag_fits f (fin true m e) h = unfold float_with_sign neg in neg-fits f (fin true m e) h

pub number_of : (x : Float) → T (not (is_nan (mag x))) → T (not (is_nan x))
unfolding float_with_sign is_nan
number_of nan h = h
number_of (inf s) h = tt
number_of (fin s m e) h = tt

pub mag_number : (x : Float) → T (not (is_nan x)) → T (not (is_nan (mag x)))
unfolding float_with_sign is_nan
mag_number nan h = h
mag_number (inf s) h = tt
mag_number (fin s m e) h = tt

turned : (f : Format) (m : ℕ) (e : lib.IntN.ℤ) → to_bits f (fin true m e) ≡ top f + to_bits f (fin false m e)
unfolding to_bits
turned f m e = go (top f) ((size (m * up e * 2 ^ low f / down e) - prec f) * hid f) (m * up e * 2 ^ low f / down e / 2 ^ (size (m * up e * 2 ^ low f / down e) - prec f))
  where
    go : (t a b : ℕ) → t + a + b ≡ t + (0 + a + b)
    go t a b = omega arith

half_of : (t b : ℕ) → t + b < 2 * t → b < t
half_of t b h = omega arith

plain_lt : (f : Format) (m : ℕ) (e : lib.IntN.ℤ) → T (fits f (fin false m e)) → to_bits f (fin false m e) < top f
plain_lt f m e h = half_of (top f) (to_bits f (fin false m e)) (subst (λ (b : ℕ). b < 2 * top f) (turned f m e) (to_bits-lt f (fin true m e) (unfold neg in neg-fits f (fin false m e) h)))

inf_lt : (f : Format) → to_bits f (inf false) < top f
unfolding to_bits
inf_lt lib.Ieee.binary32 = lib.Dec.lit< tt
inf_lt lib.Ieee.binary64 = lib.Dec.lit< tt

inf_turned : (f : Format) → to_bits f (inf true) ≡ top f + to_bits f (inf false)
unfolding to_bits
inf_turned lib.Ieee.binary32 = refl
inf_turned lib.Ieee.binary64 = refl

-- the size's pattern
pub mag_bits : (f : Format) (x : Float) → T (fits f x) → T (not (is_nan x)) → to_bits f x % top f ≡ to_bits f (mag x)
mag_bits f nan h n = absurd (unfold is_nan in n)
mag_bits f (inf false) h n = unfold float_with_sign in mod-eq_of_lt (inf_lt f)
mag_bits f (inf true) h n = unfold float_with_sign in (ap (λ (b : ℕ). b % top f) (inf_turned f) ∙ add-mod_left (top f) (to_bits f (inf false)) ∙ mod-eq_of_lt (inf_lt f))
mag_bits f (fin false m e) h n = unfold float_with_sign in mod-eq_of_lt (plain_lt f m e h)
mag_bits f (fin true m e) h n = unfold float_with_sign in (ap (λ (b : ℕ). b % top f) (turned f m e) ∙ add-mod_left (top f) (to_bits f (fin false m e)) ∙ mod-eq_of_lt (plain_lt f m e (unfold neg in neg-fits f (fin true m e) h)))

above_top : (t b c : ℕ) → c ≡ t + b → T (leb t c)
above_top t b c e = le→leb t c (omega arith)

under_top : (t c : ℕ) → c < t → T (not (leb t c))
under_top t c h = not_T (leb t c) (λ (w : T (leb t c)). (let l = leb→le t c w in no t c h l))
  where
    no : (t c : ℕ) → c < t → t ≤ c → ⊥
    no t c h l = omega arith

-- the sign bit
pub sign_bit : (f : Format) (x : Float) → T (fits f x) → T (not (is_nan x)) → leb (top f) (to_bits f x) ≡ is_sign_negative x
sign_bit f nan h n = absurd (unfold is_nan in n)
sign_bit f (inf false) h n = unfold is_sign_negative in is_false (leb (top f) (to_bits f (inf false))) (under_top (top f) (to_bits f (inf false)) (inf_lt f))
sign_bit f (inf true) h n = unfold is_sign_negative in is_true (leb (top f) (to_bits f (inf true))) (above_top (top f) (to_bits f (inf false)) (to_bits f (inf true)) (inf_turned f))
sign_bit f (fin false m e) h n = unfold is_sign_negative in is_false (leb (top f) (to_bits f (fin false m e))) (under_top (top f) (to_bits f (fin false m e)) (plain_lt f m e h))
sign_bit f (fin true m e) h n = unfold is_sign_negative in is_true (leb (top f) (to_bits f (fin true m e))) (above_top (top f) (to_bits f (fin false m e)) (to_bits f (fin true m e)) (turned f m e))

-- ---- order
-- a number's pattern, below the sign, is at most the infinity's
pub number_bits : (f : Format) (x : Float) → T (fits f x) → T (not (is_nan x)) → to_bits f x % top f ≤ ones f * hid f
number_bits f x h n =
    nltb→le (ones f * hid f) (to_bits f x % top f)
    (subst (λ (b : Bool). T (not b)) (nan_bits_above f (to_bits f x)) (subst (λ (b : Bool). T (not b)) (sym (nan_bits_is f (to_bits f x))) (subst (λ (y : Float). T (not (is_nan y))) (sym (of_bits-to_bits f x h)) n)))

pub mag_under : (f : Format) (x : Float) (b : ℕ) → T (fits f x) → T (not (is_nan x)) → to_bits f x % top f ≤ b → b < ones f * hid f → T (le (mag x) (of_bits f b))
mag_under f x b h n l k =
    subst (λ (y : Float). T (le y (of_bits f b))) (of_bits-to_bits f (mag x) (mag_fits f x h))
    (of_bits_mono f (to_bits f (mag x)) b (subst (λ (c : ℕ). c ≤ b) (mag_bits f x h n) l) k)

inf_bits : (f : Format) → of_bits f (ones f * hid f) ≡ inf false
unfolding of_bits
inf_bits lib.Ieee.binary32 = refl
inf_bits lib.Ieee.binary64 = refl

at_end : (f : Format) (x : Float) → T (fits f x) → T (not (is_nan x)) → to_bits f x % top f ≡ ones f * hid f → mag x ≡ inf false
at_end f x h n e = sym (of_bits-to_bits f (mag x) (mag_fits f x h)) ∙ ap (of_bits f) (sym (mag_bits f x h n) ∙ e) ∙ inf_bits f

pub mag_over : (f : Format) (x : Float) (b : ℕ) → T (fits f x) → T (not (is_nan x)) → b ≤ to_bits f x % top f → b < ones f * hid f → T (le (of_bits f b) (mag x))
mag_over f x b h n l k = elim (eq-or-lt_of_le (number_bits f x h n)) [
  | inl e ↦ subst (λ (y : Float). T (le (of_bits f b) y)) (sym (at_end f x h n e)) (le_inf (of_bits f b) (finite_number (of_bits f b) (of_bits_finite f b k)))
  | inr w ↦ subst (λ (y : Float). T (le (of_bits f b) y)) (of_bits-to_bits f (mag x) (mag_fits f x h)) (of_bits_mono f b (to_bits f (mag x)) (subst (λ (c : ℕ). b ≤ c) (mag_bits f x h n) l) (subst (λ (c : ℕ). c < ones f * hid f) (mag_bits f x h n) w))
]

-- ---- a test on the pattern below the sign is a test on the size
number_is : (f : Format) (x : Float) (b : ℕ) → T (fits f x) → T (not (is_nan x)) → b < ones f * hid f → ltb (to_bits f x % top f) b ≡ lt (mag x) (of_bits f b)
number_is f x b h n k = go (ltb w b) (lt (mag x) c) (ltb→lt w b) (nltb→le w b) (λ l. lt_not_le (mag x) c l) (λ l. not_lt-le (mag x) c (mag_number x n) (finite_number c (of_bits_finite f b k)) l)
  where
    w : ℕ
    w = to_bits f x % top f

    c : Float
    c = of_bits f b

    -- where c is at most the size, the pattern is b or more
    back : T (le c (mag x)) → w < b → ⊥
    back t l =
        let e = mag_bits f x h n in
        let l' : to_bits f (mag x) < b = subst (λ (z : ℕ). z < b) e l in
        not-le_of_lt l' (of_bits_order f b (to_bits f (mag x)) k (lt_trans l' k) (subst (λ (y : Float). T (le c y)) (sym (of_bits-to_bits f (mag x) (mag_fits f x h))) t))

    go : (p q : Bool) → (T p → w < b) → (T (not p) → b ≤ w) → (T q → T (le c (mag x)) → ⊥) → (T (not q) → T (le c (mag x))) → p ≡ q
    go true true a d u v = refl
    go false false a d u v = refl
    go true false a d u v = absurd (back (v tt) (a tt))
    go false true a d u v = absurd (u tt (mag_over f x b h n (d tt) k))

nan_above : (f : Format) → ones f * hid f ≤ to_bits f nan % top f
unfolding to_bits
nan_above lib.Ieee.binary32 = lit≤ tt
nan_above lib.Ieee.binary64 = lit≤ tt

mag_nan : (b : Float) → lt (mag nan) b ≡ false
unfolding float_with_sign lt
mag_nan b = refl

-- NaN is below nothing, by either test
pub bits_is : (f : Format) (x : Float) (b : ℕ) → T (fits f x) → b < ones f * hid f → ltb (to_bits f x % top f) b ≡ lt (mag x) (of_bits f b)
bits_is f nan b h k =
    is_false (ltb (to_bits f nan % top f) b) (not_T (ltb (to_bits f nan % top f) b) (λ (w : T (ltb (to_bits f nan % top f) b)). not-le_of_lt (lt_trans (ltb→lt (to_bits f nan % top f) b w) k) (nan_above f)))
    ∙ sym (mag_nan (of_bits f b))
bits_is f (inf s) b h k = number_is f (inf s) b h (unfold is_nan in tt) k
bits_is f (fin s m e) b h k = number_is f (fin s m e) b h (unfold is_nan in tt) k

-- what is not below a value of the format is at least that
pub not_below : (f : Format) (x : Float) (b : ℕ) → T (not (is_nan x)) → b < ones f * hid f → T (not (lt (mag x) (of_bits f b))) → T (le (of_bits f b) (mag x))
not_below f x b n k h = not_lt-le (mag x) (of_bits f b) (mag_number x n) (finite_number (of_bits f b) (of_bits_finite f b k)) h

-- ---- the high word of an f64
abbrev pub high : Float → ℕ
high x = to_bits binary64 x % 2 ^ 63 / 2 ^ 32

high_test : (w H : ℕ) → ltb (w / 0x100000000) H ≡ ltb w (H * 0x100000000)
high_test w H = go (ltb (w / 0x100000000) H) (ltb w (H * 0x100000000)) (ltb→lt (w / 0x100000000) H) (nltb→le (w / 0x100000000) H) (ltb→lt w (H * 0x100000000)) (nltb→le w (H * 0x100000000))
  where
    go : (p q : Bool) → (T p → w / 0x100000000 < H) → (T (not p) → H ≤ w / 0x100000000) → (T q → w < H * 0x100000000) → (T (not q) → H * 0x100000000 ≤ w) → p ≡ q
    go true true a b c d = refl
    go false false a b c d = refl
    go true false a b c d = let l = a tt in let r = d tt in absurd (no l r)
      where
        no : w / 0x100000000 < H → H * 0x100000000 ≤ w → ⊥
        no l r = omega arith
    go false true a b c d = let l = b tt in let r = c tt in absurd (no l r)
      where
        no : H ≤ w / 0x100000000 → w < H * 0x100000000 → ⊥
        no l r = omega arith

pub high_is : (x : Float) (H : ℕ) → T (fits binary64 x) → H < 0x7ff00000 → ltb (high x) H ≡ lt (mag x) (of_bits binary64 (H * 0x100000000))
high_is x H h k = high_test (to_bits binary64 x % 2 ^ 63) H ∙ bits_is binary64 x (H * 0x100000000) h (room H k)
  where
    room : (H : ℕ) → H < 0x7ff00000 → H * 0x100000000 < 0x7ff0000000000000
    room H k = omega arith

-- ---- from the size's bounds to the value's
pub side_plain : (x a b : Float) → is_sign_negative x ≡ false → T (le a (mag x)) → T (le (mag x) b) → In x (mk a b)
side_plain x a b s h k = subst (λ (y : Float). In y (mk a b)) (mag_plain x s) (h, k)

pub side_turned : (x a b : Float) → is_sign_negative x ≡ true → T (le a (mag x)) → T (le (mag x) b) → In x (mk (neg b) (neg a))
side_turned x a b s h k = subst (λ (y : Float). In y (mk (neg b) (neg a))) (mag_turned x s) (neg-le (mag x) b k, neg-le a (mag x) h)

pub mag_zero : (x : Float) → T (not (is_nan x)) → T (le (fin false 0 (lib.IntN.pos 0)) (mag x))
mag_zero nan n = absurd (unfold is_nan in n)
mag_zero (inf s) n = unfold float_with_sign le in tt
mag_zero (fin s m e) n = unfold float_with_sign in le_of_Le (fin false 0 (lib.IntN.pos 0)) (fin false m e) tt tt (zero_under (down e) (m * up e))
  where
    zero_under : (d a : ℕ) → 0 * 1 * d + 0 * 1 ≤ a * 1 + 0 * d
    zero_under d a = omega arith

-- ---- the sign from a bound, and the largest value
pub above_plain : (c y : Float) → T (positive c) → T (le c y) → is_sign_negative y ≡ false
unfolding is_sign_negative le
above_plain nan y p h = absurd p
above_plain (inf s) y p h = absurd p
above_plain (fin true m e) y p h = absurd p
above_plain (fin false m e) nan p h = absurd h
above_plain (fin false m e) (inf true) p h = absurd h
above_plain (fin false m e) (inf false) p h = refl
above_plain (fin false m e) (fin false n d) p h = refl
above_plain (fin false m e) (fin true n d) p h = absurd (lt_irrefl 0 (above_parts (fin false m e) (fin true n d) p tt tt (unfold le in h)).1)

pub neg_negative : (y : Float) → T (not (is_nan y)) → is_sign_negative (neg y) ≡ not (is_sign_negative y)
unfolding is_sign_negative neg is_nan
neg_negative nan h = absurd h
neg_negative (inf s) h = refl
neg_negative (fin s m e) h = refl

turn : (s : Bool) → not s ≡ false → s ≡ true
turn true e = refl
turn false e = absurd (true≢false e)

pub below_turned : (c y : Float) → T (positive c) → T (le y (neg c)) → is_sign_negative y ≡ true
below_turned c y p h =
    let k : T (le c (neg y)) = subst (λ (z : Float). T (le z (neg y))) (neg-neg c) (neg-le y (neg c) h) in
    turn (is_sign_negative y) (sym (neg_negative y (number_below y (neg c) h)) ∙ above_plain c (neg y) p k)

pub mag_finite : (x : Float) → T (finite x) → T (finite (mag x))
unfolding float_with_sign
mag_finite nan p = p
mag_finite (inf s) p = p
mag_finite (fin s m e) p = tt

pub mag_largest : (f : Format) (x : Float) → T (fits f x) → T (finite x) → T (le (mag x) (of_bits f (ones f * hid f - 1)))
mag_largest f x h F = elim (eq-or-lt_of_le (number_bits f x h (finite_number x F))) [
  | inl e ↦ absurd (subst (λ (y : Float). T (finite y)) (at_end f x h (finite_number x F) e) (mag_finite x F))
  | inr w ↦ mag_under f x (ones f * hid f - 1) h (finite_number x F) (under (to_bits f x % top f) (ones f * hid f) w) (less (to_bits f x % top f) (ones f * hid f) w)
]
  where
    under : (c M : ℕ) → c < M → c ≤ M - 1
    under c M h = omega arith

    less : (c M : ℕ) → c < M → M - 1 < M
    less c M h = omega arith

-- a bound on the size is one on either side
pub mag_in : (x b : Float) → T (le (mag x) b) → In x (mk (neg b) b)
mag_in x b h = go (is_sign_negative x) refl
  where
    number : T (not (is_nan (mag x)))
    number = number_below (mag x) b h

    origin : Float
    origin = fin false 0 (lib.IntN.pos 0)

    around : T (le (neg origin) origin)
    around = unfold le neg in tt

    from_zero : T (le origin (mag x))
    from_zero = mag_zero x (number_of x number)

    down : T (le (neg (mag x)) (mag x))
    down = le_trans_f (neg (mag x)) (neg origin) (mag x) (neg-le origin (mag x) from_zero) (le_trans_f (neg origin) origin (mag x) around from_zero)

    go : (s : Bool) → is_sign_negative x ≡ s → In x (mk (neg b) b)
    go false s = subst (λ (y : Float). In y (mk (neg b) b)) (mag_plain x s) (le_trans_f (neg b) (neg (mag x)) (mag x) (neg-le (mag x) b h) down, h)
    go true s = subst (λ (y : Float). In y (mk (neg b) b)) (mag_turned x s) (neg-le (mag x) b h, le_trans_f (neg (mag x)) (mag x) b down h)

-- and back
pub mag_between : (x b : Float) → T (le (neg b) x) → T (le x b) → T (le (mag x) b)
mag_between x b h k = go (is_sign_negative x) refl
  where
    go : (s : Bool) → is_sign_negative x ≡ s → T (le (mag x) b)
    go false s = subst (λ (y : Float). T (le y b)) (sym (mag_plain x s)) k
    go true s =
        subst (λ (y : Float). T (le y b)) (ap neg (sym (mag_turned x s)) ∙ neg-neg (mag x))
        (subst (λ (y : Float). T (le (neg x) y)) (neg-neg b) (neg-le (neg b) x h))

-- ---- a zero that fits is written in one way
above_one : (p a b : ℕ) → 1 < p → T (eqb (a * b) 1) → a * b ≡ p → ⊥
above_one p a b h t e = let w = eqb→eq (a * b) 1 t in omega arith

pub zero_exponent : (f : Format) (s : Bool) (e : lib.IntN.ℤ) → T (fits f (fin s 0 e)) → e ≡ lib.IntN.pos 0
unfolding fits
zero_exponent f s (lib.IntN.pos zero) h = refl
zero_exponent f s (lib.IntN.pos (suc k)) h = absurd (above_one (2 ^ suc k) (2 ^ suc k) 1 (pow-lt (zero-lt-suc k)) h (mul-one (2 ^ suc k)))
zero_exponent f s (lib.IntN.negsuc k) h = absurd (above_one (2 ^ suc k) 1 (2 ^ suc k) (pow-lt (zero-lt-suc k)) h (one-mul (2 ^ suc k)))

-- a function that keeps the NaN gives its argument back where that is one
pub nan_stays : (g : Float → Float) → g nan ≡ nan → (x : Float) → true ≡ is_nan x → x ≡ g x
nan_stays g h nan n = sym h
nan_stays g h (inf s) n = absurd (true≢false (unfold is_nan in n))
nan_stays g h (fin s m e) n = absurd (true≢false (unfold is_nan in n))

-- ---- zero is told from the rest by `eq`
some_units : (m e d : ℕ) → 0 < e → suc m * e * 1 ≡ 0 * 1 * d → ⊥
some_units m e d h k = let g = mul-pos (zero-lt-suc m) h in (omega (arith, g, k))

up_pos : (e : lib.IntN.ℤ) → 0 < up e
up_pos (lib.IntN.pos k) = pow_pos k
up_pos (lib.IntN.negsuc k) = pow_pos 0

pub nonzero : (s : Bool) (m : ℕ) (e : lib.IntN.ℤ) → eq (fin s (suc m) e) (fin false 0 (lib.IntN.pos 0)) ≡ false
unfolding eq
nonzero s m e = ap (λ (b : Bool). b && (beq s false || eqb (suc m * up e * 1) 0)) (ne_eqb (suc m * up e * 1) (0 * 1 * down e) (some_units m (up e) (down e) (up_pos e)))
