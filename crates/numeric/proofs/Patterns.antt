-- Finite values that are not negative are ordered as their bit patterns. Assumes nothing.
use Rattle.std.proofs.Common.{◌≡◌, ℕ, zero, suc, ◌+◌, ◌-◌, ◌*◌, ◌/◌, ◌%◌, ◌^◌, ◌<◌, ◌≤◌, Bool, true, false, cond, T, eqb, leb, sym, ap, ◌∙◌, subst, ap₂, inl, inr, true≢false, zero-le, le_trans, le_of_eq, lt_of_lt_of_le, le_of_suc-le-suc, lt_of_le_of_lt, mul-le-mul_right, mod-lt, mod-eq_of_lt, mul_assoc, suc-mul, mul_comm, div-lt_iff_lt-mul, mul-le-mul, eq-or-lt_of_le, mul-le-mul_left, mul-lt-mul_of_pos_right, lt_of_not-le, div-add-mod', not-le_of_lt, le_of_mul-le-mul_right, arith, eqb→eq, leb→le, pow_pos, pow_mono}
use lib.Dec.{not_T}
use lib.Ieee.{Float, nan, inf, fin, Format, prec, low, up, down, hid, ones, top, odd, of_fields, of_bits, le}
use lib.Ieee.Bits.{is_false, cond_no}
use lib.Ieee.Exact.{HasValue, odd_sign}
use lib.Ieee.Fits.{down_pos}
use lib.Ieee.Order.{le_of_values, transfer}
use lib.Ieee.Scale.{finite}
use Rattle.numeric.proofs.Rounding.{Le_of_le}

abbrev amount : Format → ℕ → ℕ → ℕ
amount f zero t = t * 2 ^ 0
amount f (suc x) t = (hid f + t) * 2 ^ x

fields_value : (f : Format) (x t : ℕ) → x < ones f → HasValue (of_fields f false x t) false (amount f x t) (2 ^ low f)
unfolding of_fields
fields_value f zero t h = odd_sign (prec f) false t 0 (low f)
fields_value f (suc x) t h =
    subst (λ (v : Float). HasValue v false ((hid f + t) * 2 ^ x) (2 ^ low f))
    (sym (cond_no (eqb (suc x) (ones f)) (cond (eqb t 0) (inf false) nan) (odd (prec f) false (hid f + t) x (low f)) (not_T (eqb (suc x) (ones f)) (λ (w : T (eqb (suc x) (ones f))). differ (suc x) (ones f) h (eqb→eq (suc x) (ones f) w)))))
    (odd_sign (prec f) false (hid f + t) x (low f))
  where
    differ : (a b : ℕ) → a < b → a ≡ b → ⊥
    differ a b h e = omega arith

-- the patterns of finite values have the sign bit clear
pub under_top : (b o h : ℕ) → b < o * h → b < h * suc o
under_top b o h l = let e : h * suc o ≡ h + o * h = mul_comm h (suc o) ∙ suc-mul o h ∙ comm (o * h) h in omega arith
  where
    comm : (a b : ℕ) → a + b ≡ b + a
    comm a b = omega arith

bits_value : (f : Format) (b : ℕ) → b < ones f * hid f → HasValue (of_bits f b) false (amount f (b / hid f) (b % hid f)) (2 ^ low f)
unfolding of_bits
bits_value f b h =
    let l : b < top f = under_top b (ones f) (hid f) h in
    let e : of_fields f (leb (top f) b) (b % top f / hid f) (b % hid f) ≡ of_fields f false (b / hid f) (b % hid f)
    = ap₂ (λ (s : Bool) (z : ℕ). of_fields f s (z / hid f) (b % hid f)) (is_false (leb (top f) b) (not_T (leb (top f) b) (λ (w : T (leb (top f) b)). not-le_of_lt l (leb→le (top f) b w)))) (mod-eq_of_lt l) in
    subst (λ (v : Float). HasValue v false (amount f (b / hid f) (b % hid f)) (2 ^ low f)) (sym e) (fields_value f (b / hid f) (b % hid f) ((div-lt_iff_lt-mul (pow_pos (prec f - 1))).1 h))

twice : (h t x : ℕ) → t < h → (h + t) * 2 ^ x ≤ h * 2 ^ suc x
twice h t x l =
    let e : h * 2 ^ suc x ≡ (h + h) * 2 ^ x = ap (λ (z : ℕ). h * z) (pow_two x) ∙ sym (mul_assoc h 2 (2 ^ x)) ∙ ap (λ (z : ℕ). z * 2 ^ x) (double h) in
    le_trans (mul-le-mul_right (2 ^ x) (both h t l)) (le_of_eq (sym e))
  where
    pow_two : (x : ℕ) → 2 ^ suc x ≡ 2 * 2 ^ x
    pow_two x = native.Mathlib.Nat.pow-succ' 2 x

    double : (h : ℕ) → h * 2 ≡ h + h
    double h = omega arith

    both : (h t : ℕ) → t < h → h + t ≤ h + h
    both h t l = omega arith

amount_mono : (f : Format) (x t x' t' : ℕ) → t < hid f → t' < hid f → x * hid f + t ≤ x' * hid f + t' → amount f x t ≤ amount f x' t'
amount_mono f zero t zero t' l l' h = mul-le-mul_right (2 ^ 0) (drop0 (hid f) t t' h)
  where
    drop0 : (w t t' : ℕ) → 0 * w + t ≤ 0 * w + t' → t ≤ t'
    drop0 w t t' h = omega arith
amount_mono f zero t (suc x') t' l l' h = mul-le-mul (grow (hid f) t t' l) (pow_mono zero-le)
  where
    grow : (w t t' : ℕ) → t < w → t ≤ w + t'
    grow w t t' l = omega arith
amount_mono f (suc x) t zero t' l l' h = absurd (no (hid f) x t t' l' h)
  where
    no : (w x t t' : ℕ) → t' < w → suc x * w + t ≤ 0 * w + t' → ⊥
    no w x t t' l h = let e = suc-mul x w in omega arith
amount_mono f (suc x) t (suc x') t' l l' h = elim (eq-or-lt_of_le (ordered x x' (hid f) t t' l' h)) [
  | inl e ↦ subst (λ (z : ℕ). (hid f + t) * 2 ^ x ≤ (hid f + t') * 2 ^ z) e (mul-le-mul_right (2 ^ x) (same (hid f) x x' t t' e h))
  | inr w ↦ le_trans (twice (hid f) t x l) (mul-le-mul (more (hid f) t') (pow_mono w))
]
  where
    more : (w t : ℕ) → w ≤ w + t
    more w t = omega arith

    same : (w x x' t t' : ℕ) → x ≡ x' → suc x * w + t ≤ suc x' * w + t' → w + t ≤ w + t'
    same w x x' t t' e h = let p = ap (λ (z : ℕ). suc z * w) e in omega arith

    ordered : (x x' w t t' : ℕ) → t' < w → suc x * w + t ≤ suc x' * w + t' → x ≤ x'
    ordered x x' w t t' l h = le_of_suc-le-suc (lt_of_not-le (λ (g : suc x' ≤ x). (let p = mul-le-mul_right w g in let e = suc-mul x w in let e' = suc-mul x' w in let q : suc x' * w + w ≤ suc x * w = omega arith in not-le_of_lt l (omega arith))))

pub of_bits_mono : (f : Format) (b b' : ℕ) → b ≤ b' → b' < ones f * hid f → T (le (of_bits f b) (of_bits f b'))
of_bits_mono f b b' h l =
    le_of_values (of_bits f b) (of_bits f b') (amount f (b / hid f) (b % hid f)) (2 ^ low f) (amount f (b' / hid f) (b' % hid f)) (2 ^ low f) (pow_pos (low f)) (pow_pos (low f))
    (bits_value f b (lt_of_le_of_lt h l)) (bits_value f b' l)
    (mul-le-mul_right (2 ^ low f) (amount_mono f (b / hid f) (b % hid f) (b' / hid f) (b' % hid f) (mod-lt b (pow_pos (prec f - 1))) (mod-lt b' (pow_pos (prec f - 1)))
    (le_trans (le_of_eq (div-add-mod' b (hid f))) (le_trans h (le_of_eq (sym (div-add-mod' b' (hid f))))))))

value_finite : (x : Float) (s : Bool) (a c : ℕ) → HasValue x s a c → T (finite x)
value_finite nan s a c h = absurd h
value_finite (inf t) s a c h = absurd h
value_finite (fin t m e) s a c h = tt

pub of_bits_finite : (f : Format) (b : ℕ) → b < ones f * hid f → T (finite (of_bits f b))
of_bits_finite f b h = value_finite (of_bits f b) false (amount f (b / hid f) (b % hid f)) (2 ^ low f) (bits_value f b h)

-- ---- and strictly so
double_lt : (h t x : ℕ) → t < h → (h + t) * 2 ^ x < h * 2 ^ suc x
double_lt h t x l =
    let e : h * 2 ^ suc x ≡ (h + h) * 2 ^ x = ap (λ (z : ℕ). h * z) (native.Mathlib.Nat.pow-succ' 2 x) ∙ sym (mul_assoc h 2 (2 ^ x)) ∙ ap (λ (z : ℕ). z * 2 ^ x) (double h) in
    lt_of_lt_of_le (mul-lt-mul_of_pos_right (both h t l) (pow_pos x)) (le_of_eq (sym e))
  where
    double : (h : ℕ) → h * 2 ≡ h + h
    double h = omega arith

    both : (h t : ℕ) → t < h → h + t < h + h
    both h t l = omega arith

amount_strict : (f : Format) (x t x' t' : ℕ) → t < hid f → t' < hid f → x * hid f + t < x' * hid f + t' → amount f x t < amount f x' t'
amount_strict f zero t zero t' l l' h = mul-lt-mul_of_pos_right (drop0 (hid f) t t' h) (pow_pos 0)
  where
    drop0 : (w t t' : ℕ) → 0 * w + t < 0 * w + t' → t < t'
    drop0 w t t' h = omega arith
amount_strict f zero t (suc x') t' l l' h = lt_of_lt_of_le (mul-lt-mul_of_pos_right (grow (hid f) t t' l) (pow_pos 0)) (mul-le-mul_left (hid f + t') (pow_mono zero-le))
  where
    grow : (w t t' : ℕ) → t < w → t < w + t'
    grow w t t' l = omega arith
amount_strict f (suc x) t zero t' l l' h = absurd (no (hid f) x t t' l' h)
  where
    no : (w x t t' : ℕ) → t' < w → suc x * w + t < 0 * w + t' → ⊥
    no w x t t' l h = let e = suc-mul x w in omega arith
amount_strict f (suc x) t (suc x') t' l l' h = elim (eq-or-lt_of_le (ordered x x' (hid f) t t' l' h)) [
  | inl e ↦ subst (λ (z : ℕ). (hid f + t) * 2 ^ x < (hid f + t') * 2 ^ z) e (mul-lt-mul_of_pos_right (same (hid f) x x' t t' e h) (pow_pos x))
  | inr w ↦ lt_of_lt_of_le (double_lt (hid f) t x l) (mul-le-mul (more (hid f) t') (pow_mono w))
]
  where
    more : (w t : ℕ) → w ≤ w + t
    more w t = omega arith

    same : (w x x' t t' : ℕ) → x ≡ x' → suc x * w + t < suc x' * w + t' → w + t < w + t'
    same w x x' t t' e h = let p = ap (λ (z : ℕ). suc z * w) e in omega arith

    ordered : (x x' w t t' : ℕ) → t' < w → suc x * w + t < suc x' * w + t' → x ≤ x'
    ordered x x' w t t' l h = le_of_suc-le-suc (lt_of_not-le (λ (g : suc x' ≤ x). (let p = mul-le-mul_right w g in let e = suc-mul x w in let e' = suc-mul x' w in let q : suc x' * w + w ≤ suc x * w = omega arith in not-le_of_lt l (omega arith))))

value_order : (x y : Float) (a b c : ℕ) → 0 < c → HasValue x false a c → HasValue y false b c → T (le x y) → a ≤ b
value_order nan y a b c C h k l = absurd h
value_order (inf s) y a b c C h k l = absurd h
value_order (fin s m e) nan a b c C h k l = absurd k
value_order (fin s m e) (inf t) a b c C h k l = absurd k
value_order (fin true m e) (fin t n d) a b c C h k l = absurd (true≢false h.0)
value_order (fin false m e) (fin true n d) a b c C h k l = absurd (true≢false k.0)
value_order (fin false m e) (fin false n d) a b c C h k l =
    let g = Le_of_le (fin false m e) (fin false n d) tt tt l in
    le_of_mul-le-mul_right (transfer a b c c (m * up e) (n * up d) (down e) (down d) (down_pos e) (down_pos d) (sym h.1) (sym k.1) (omega arith)) C

pub of_bits_order : (f : Format) (b b' : ℕ) → b < ones f * hid f → b' < ones f * hid f → T (le (of_bits f b) (of_bits f b')) → b ≤ b'
of_bits_order f b b' h h' l =
    le_of_suc-le-suc (lt_of_not-le (λ (g : b' < b). not-le_of_lt (amount_strict f (b' / hid f) (b' % hid f) (b / hid f) (b % hid f) (mod-lt b' (pow_pos (prec f - 1))) (mod-lt b (pow_pos (prec f - 1)))
    (lt_of_le_of_lt (le_of_eq (div-add-mod' b' (hid f))) (lt_of_lt_of_le g (le_of_eq (sym (div-add-mod' b (hid f)))))))
    (value_order (of_bits f b) (of_bits f b') (amount f (b / hid f) (b % hid f)) (amount f (b' / hid f) (b' % hid f)) (2 ^ low f) (pow_pos (low f)) (bits_value f b h) (bits_value f b' h') l)))
