-- The pattern of a power of two, and a product with one. Assumes nothing.
use Rattle.std.proofs.Common.{◌≡◌, ℕ, suc, ◌+◌, ◌-◌, ◌*◌, ◌/◌, ◌%◌, ◌<◌, ◌≤◌, Bool, true, false, cond, leb, ℤ, pos, negsuc, ◌+ℤ◌, nat_abs, ◌≤ℤ◌, refl, ap, ◌∙◌, mod-eq_of_lt, mul-lt-mul_of_pos_right, mul-div_cancel, arith, lit≤, pow_pos, ne_eqb, le-leb}
use native.Mathlib.Nat.{mul-mod_left}
use borrow.Author.Tests.{lt-leb}
use lib.Ieee.{Float, Format, nan, inf, fin, binary32, binary64, prec, emax, low, hid, ones, top, minus, unlike, up, down, odd, round, mul, of_fields, of_bits}
use lib.Ieee.Fits.{two}
use Rattle.std.proofs.lemmas.Int.{ints}
use Rattle.numeric.proofs.Patterns.{under_top}
use Rattle.scaling.proofs.Product.{product_of}

-- the leading digit alone
leading : (f : Format) (i : ℕ) → odd (prec f) false (hid f + 0) i (low f) ≡ fin false 1 (minus (i + (prec f - 1)) (low f))
unfolding odd
leading binary32 i = refl
leading binary64 i = refl

at_exponent : (f : Format) (i : ℕ) → suc i < ones f → of_fields f false (suc i) 0 ≡ fin false 1 (minus (i + (prec f - 1)) (low f))
unfolding of_fields
at_exponent f i h = ap (λ (b : Bool). cond b (cond true (inf false) nan) (odd (prec f) false (hid f + 0) i (low f))) (ne_eqb (suc i) (ones f) (differ (suc i) (ones f) h)) ∙ leading f i
  where
    differ : (a b : ℕ) → a < b → a ≡ b → ⊥
    differ a b h e = omega arith

pattern : (f : Format) (i : ℕ) → suc i < ones f → of_bits f (suc i * hid f) ≡ fin false 1 (minus (i + (prec f - 1)) (low f))
unfolding of_bits
pattern f i h =
    let H : 0 < hid f = pow_pos (prec f - 1) in
    let l : suc i * hid f < top f = under_top (suc i * hid f) (ones f) (hid f) (mul-lt-mul_of_pos_right h H) in
    let p : leb (top f) (suc i * hid f) ≡ false = lt-leb (top f) (suc i * hid f) l in
    let q : suc i * hid f % top f / hid f ≡ suc i = ap (λ (b : ℕ). b / hid f) (mod-eq_of_lt l) ∙ mul-div_cancel (suc i) H in
    let r : suc i * hid f % hid f ≡ 0 = mul-mod_left (suc i) (hid f) in
    (λ j. of_fields f (p j) (q j) (r j)) ∙ at_exponent f i h

up_minus : (a b n : ℕ) → b + n ≡ a → minus a b ≡ pos n
up_minus a b n e =
    let t : leb b a ≡ true = le-leb b a (omega arith) in
    let d : a - b ≡ n = omega arith in
    ap (λ (c : Bool). cond c (pos (a - b)) (negsuc (b - suc a))) t ∙ ap pos d

down_minus : (a b n : ℕ) → a + suc n ≡ b → minus a b ≡ negsuc n
down_minus a b n e =
    let t : leb b a ≡ false = lt-leb b a (omega arith) in
    let d : b - suc a ≡ n = omega arith in
    ap (λ (c : Bool). cond c (pos (a - b)) (negsuc (b - suc a))) t ∙ ap negsuc d

-- the exponent's field, of e + n, for digits that are p: what `power_is` needs of the numbers
module _ (e p : ℕ) (E : 2 ≤ e) (P : 2 ≤ p) where
  up_field : (n : ℕ) → nat_abs (pos e +ℤ pos n) ≡ suc (e - 1 + n)
  up_field n = omega (arith, ints)

  up_value : (n : ℕ) → minus (e - 1 + n + (p - 1)) (e + p - 2) ≡ pos n
  up_value n = up_minus (e - 1 + n + (p - 1)) (e + p - 2) n (omega arith)

  down_field : (n : ℕ) → n ≤ e - 2 → nat_abs (pos e +ℤ negsuc n) ≡ suc (e - 2 - n)
  down_field n k = omega (arith, ints)

  down_value : (n : ℕ) → n ≤ e - 2 → minus (e - 2 - n + (p - 1)) (e + p - 2) ≡ negsuc n
  down_value n k = down_minus (e - 2 - n + (p - 1)) (e + p - 2) n (omega arith)

  up_room : (n : ℕ) → n ≤ e → suc (e - 1 + n) < 2 * e + 1
  up_room n k = omega arith

  down_room : (n : ℕ) → suc (e - 2 - n) < 2 * e + 1
  down_room n = omega arith

wide : (f : Format) → 2 ≤ emax f
wide binary32 = lit≤ tt
wide binary64 = lit≤ tt

-- emax + n in the exponent's field, and no digits
pub power_is : (f : Format) (n : ℤ) → negsuc (emax f - 2) ≤ℤ n → n ≤ℤ pos (emax f) → of_bits f (nat_abs (pos (emax f) +ℤ n) * hid f) ≡ fin false 1 n
power_is f (pos n) l h =
    ap (λ (j : ℕ). of_bits f (j * hid f)) (up_field (emax f) (prec f) (wide f) (two f) n) ∙ pattern f (emax f - 1 + n) (up_room (emax f) (prec f) (wide f) (two f) n (omega (arith, ints)))
    ∙ ap (fin false 1) (up_value (emax f) (prec f) (wide f) (two f) n)
power_is f (negsuc n) l h =
    let k : n ≤ emax f - 2 = omega (arith, ints) in
    ap (λ (j : ℕ). of_bits f (j * hid f)) (down_field (emax f) (prec f) (wide f) (two f) n k) ∙ pattern f (emax f - 2 - n) (down_room (emax f) (prec f) (wide f) (two f) n)
    ∙ ap (fin false 1) (down_value (emax f) (prec f) (wide f) (two f) n k)

one-mul : (u : ℕ) → 1 * u ≡ u
one-mul u = omega arith

plain_sign : (s : Bool) → unlike s false ≡ s
plain_sign true = refl
plain_sign false = refl

-- the product with a power of two is the scaled value: one rounding
pub by_product : (f : Format) (x : Float) (n : ℤ) → mul f x (fin false 1 n) ≡ product_of f x n
unfolding mul product_of
by_product f nan n = refl
by_product f (inf true) n = refl
by_product f (inf false) n = refl
by_product f (fin s m e) n = λ i. round f (plain_sign s i) (m * up e * one-mul (up n) i) (down e * down n)
