-- The values of a format, counted in units of its smallest one, and their order as that of their fractions. Assumes nothing.
use Rattle.std.proofs.Common.{◌≡◌, ℕ, zero, suc, ◌+◌, ◌-◌, ◌*◌, ◌%◌, ◌^◌, ◌<◌, ◌≤◌, Bool, true, false, ◌&&◌, T, eqb, ltb, leb, ℤ, pos, negsuc, sym, refl, ap, ◌∙◌, subst, le_of_suc-le-suc, mul_assoc, mul_comm, add-mul, lt_of_mul-lt-mul_right, mul-lt-mul_of_pos_right, mul-pos, one-mul, lt_of_not-le, zero-mul, mul-one, mul_right_comm, not-le_of_lt, arith, eqb→eq, ltb→lt, leb→le, pow_pos, pow-add}
use lib.Pow.{pow-lt}
use lib.Ieee.{Float, nan, inf, fin, Format, prec, emax, low, up, down, fits, lt, le}
use lib.Ieee.Digits.{back}
use lib.Ieee.Fits.{and_l, and_r, down_pos, up_pos}
use lib.Ieee.Positive.{num, den, positive, first_pos}
use lib.Ieee.Scale.{finite}
use Rattle.std.specs.Float as Floats
use Rattle.numeric.proofs.Nearest.{Short}

-- ---- what a value that fits is

pub record Fitting (f : Format) (m : ℕ) (e : ℤ) : Type 0 where
  pub short : m < 2 ^ prec f
  pub fine : down e ≤ 2 ^ low f
  pub under : m * up e < 2 ^ suc (emax f) * down e

pub fitting : (f : Format) (s : Bool) (m : ℕ) (e : ℤ) → T (fits f (fin s (suc m) e)) → Fitting f (suc m) e
unfolding fits
fitting f s m e h =
    let a = eqb (suc m % 2) 1 in
    let b = ltb (suc m) (2 ^ prec f) in
    let c = leb (down e) (2 ^ low f) in
    let d = ltb (suc m * up e) (2 ^ suc (emax f) * down e) in
    record {
      short = ltb→lt (suc m) (2 ^ prec f) (and_r a b (and_l (a && b) c (and_l (a && b && c) d h)));
      fine = leb→le (down e) (2 ^ low f) (and_r (a && b) c (and_l (a && b && c) d h));
      under = ltb→lt (suc m * up e) (2 ^ suc (emax f) * down e) (and_r (a && b && c) d h);
    }

le_of_powers : (i j : ℕ) → 2 ^ i ≤ 2 ^ j → i ≤ j
le_of_powers i j h = le_of_suc-le-suc (lt_of_not-le (λ (g : suc j ≤ i). not-le_of_lt (pow-lt g) h))

pub power_in_units : (l : ℕ) (e : ℤ) → down e ≤ 2 ^ l → (j : ℕ) × (up e * 2 ^ l ≡ 2 ^ j * down e)
power_in_units l (pos k) h = (k + l, sym (pow-add 2 k l) ∙ sym (mul-one (2 ^ (k + l))))
power_in_units l (negsuc k) h = (l - suc k, one-mul (2 ^ l) ∙ ap (λ (x : ℕ). 2 ^ x) (sym (back l (suc k) (le_of_powers (suc k) l h))) ∙ pow-add 2 (l - suc k) (suc k))

-- z is `count` units
pub record Units (f : Format) (z : Float) : Type 0 where
  pub count : ℕ
  pub digits : Short (prec f) count
  pub is : num z * 2 ^ low f ≡ count * den z

pub in_units : (f : Format) (z : Float) → T (fits f z) → T (finite z) → Units f z
in_units f nan h p = absurd p
in_units f (inf s) h p = absurd p
in_units f (fin s zero e) h p = record { count = 0; digits = (0, 0, pow_pos (prec f), refl); is = simp zero-mul }
in_units f (fin s (suc m) e) h p =
    let fit = fitting f s m e h in
    let j = power_in_units (low f) e fit.fine in
    record {
      count = suc m * 2 ^ j.0;
      digits = (suc m, j.0, fit.short, refl);
      is = mul_assoc (suc m) (up e) (2 ^ low f) ∙ ap (λ (x : ℕ). suc m * x) j.1 ∙ sym (mul_assoc (suc m) (2 ^ j.0) (down e));
    }

-- ---- order

-- z is not negative, and below a y above zero
pub below_cross : (z y : Float) → T (le Floats.float_zero z) → T (positive y) → T (lt z y) → T (finite z) × (num z * den y < num y * den z)
unfolding le lt
below_cross nan y p q h = absurd p
below_cross (inf true) y p q h = absurd p
below_cross (inf false) nan p q h = absurd q
below_cross (inf false) (inf t) p q h = absurd q
below_cross (inf false) (fin t n d) p q h = absurd h
below_cross (fin s m e) nan p q h = absurd q
below_cross (fin s m e) (inf t) p q h = absurd q
below_cross (fin s m e) (fin true n d) p q h = absurd q
below_cross (fin false m e) (fin false n d) p q h = (tt, ltb→lt (m * up e * down d) (n * up d * down e) h)
below_cross (fin true m e) (fin false n d) p q h =
    let z : 0 * 1 * down e ≡ m * up e * 1 = eqb→eq (0 * 1 * down e) (m * up e * 1) (and_l (eqb (0 * 1 * down e) (m * up e * 1)) (eqb (0 * 1 * down e) 0) p) in
    let none : m * up e ≡ 0 = omega arith in
    (tt, subst (λ (x : ℕ). x * down d < n * up d * down e) (sym none) (subst (λ (x : ℕ). x < n * up d * down e) (sym (zero-mul (down d))) (mul-pos (mul-pos (ltb→lt 0 n q) (up_pos d)) (down_pos e))))

-- z is above a y above zero
pub above_cross : (y z : Float) → T (positive y) → T (finite z) → T (lt y z) → num y * den z < num z * den y
unfolding lt
above_cross nan z p q h = absurd p
above_cross (inf s) z p q h = absurd p
above_cross (fin true m e) z p q h = absurd p
above_cross (fin false m e) nan p q h = absurd q
above_cross (fin false m e) (inf t) p q h = absurd q
above_cross (fin false m e) (fin true n d) p q h = absurd h
above_cross (fin false m e) (fin false n d) p q h = ltb→lt (m * up e * down d) (n * up d * down e) h

-- ---- fractions a / b and c / d of X and Y units, and one is l units

crossed : (a b d l X : ℕ) → a * l ≡ X * b → a * d * l ≡ X * (b * d)
crossed a b d l X e = mul_right_comm a d l ∙ ap (λ (x : ℕ). x * d) e ∙ mul_assoc X b d

-- the same with the denominators in the other order
crossed_back : (c d b l Y : ℕ) → c * l ≡ Y * d → c * b * l ≡ Y * (b * d)
crossed_back c d b l Y e = crossed c d b l Y e ∙ ap (λ (x : ℕ). Y * x) (mul_comm d b)

pub units_lt : (a b c d l X Y : ℕ) → 0 < l → a * l ≡ X * b → c * l ≡ Y * d → a * d < c * b → X < Y
units_lt a b c d l X Y L p q h =
    lt_of_mul-lt-mul_right (b * d) (subst (λ (x : ℕ). x < Y * (b * d)) (crossed a b d l X p) (subst (λ (x : ℕ). a * d * l < x) (crossed_back c d b l Y q) (mul-lt-mul_of_pos_right h L)))

pub units_sum : (a b c d l X Y : ℕ) → a * l ≡ X * b → c * l ≡ Y * d → (a * d + c * b) * l ≡ (X + Y) * (b * d)
units_sum a b c d l X Y p q =
    add-mul (a * d) (c * b) l ∙ ap (λ (x : ℕ). x + c * b * l) (crossed a b d l X p) ∙ ap (λ (x : ℕ). X * (b * d) + x) (crossed_back c d b l Y q) ∙ sym (add-mul X Y (b * d))

-- above zero, and below t
pub some_units : (a b l X : ℕ) → 0 < a → 0 < l → a * l ≡ X * b → 0 < X
some_units a b l X A L e = first_pos X b (subst (λ (x : ℕ). 0 < x) e (mul-pos A L))

pub few_units : (a b l X t : ℕ) → 0 < l → a * l ≡ X * b → a < t * b → X < t * l
few_units a b l X t L e h = units_lt a b t 1 l X (t * l) L e (sym (mul-one (t * l))) (subst (λ (x : ℕ). x < t * b) (sym (mul-one a)) h)
