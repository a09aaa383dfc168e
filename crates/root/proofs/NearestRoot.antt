-- The rounded root is nearer to the exact root than every other value of its format. A unit is the format's smallest value. Assumes nothing.
use Rattle.std.proofs.Common.{◌≡◌, ℕ, zero, suc, ◌+◌, ◌*◌, ◌/◌, ◌^◌, ◌<◌, ◌≤◌, true, false, T, ℤ, sym, refl, ap, ◌∙◌, subst, le_trans, le_of_eq, lt_of_lt_of_le, lt_of_le_of_lt, le_of_lt, mul-le-mul_right, zero-lt-suc, mul_assoc, mul_comm, le_antisymm, lt_of_mul-lt-mul_right, mul-le-mul_left, mul-lt-mul_of_pos_right, mul-pos, one-mul, mul-one, mul_right_comm, le_of_mul-le-mul_right, mul-div_cancel, mul_left_comm, arith, lit<, pow_pos, pow-add}
use native.Mathlib.Nat.{mul-mul-mul_comm, eq_of_mul-eq-mul_right}
use lib.Arith.{lt_of_le-ne}
use lib.Pow.{pow-lt}
use lib.Ieee.{Float, nan, inf, fin, Format, binary32, binary64, prec, emax, low, round, fits}
use lib.Ieee.Exact.{round_exact}
use lib.Ieee.Fits.{round-fits, up_pos, two, two-le_pos}
use lib.Ieee.Order.{round_mono}
use lib.Ieee.Positive.{num, den, den_pos, positive, positive-finite, positive_of_value, value→cross, between}
use lib.Ieee.Scale.{grid, round_val, round_under}
use Rattle.std.specs.Float as Floats
use lib.Ieee.{root_twice}
use Rattle.root.specs.Sqrt.{root_of, sqrt_of, NearestRoot, MiddleBelow, MiddleAbove, sum_top, sum_bottom}
use Rattle.numeric.proofs.Nearest.{Short, Nearest, round_nearest}
use Rattle.numeric.proofs.Words.{zero_exponent}
use Rattle.numeric.proofs.Units.{Units, in_units, fitting, below_cross, above_cross, units_lt, units_sum, some_units, few_units}
use Rattle.root.proofs.WholeRoot.{scaled_within, of_scaled_within, scaled_beyond, of_scaled_beyond, halved, short_root}

-- ---- whole numbers

-- `simp products` shows that two products of the same factors are equal
four : (a : ℕ) → 2 * (2 * a) ≡ 4 * a
four a = omega arith

ruleset products = (mul_assoc, mul_comm, mul_left_comm, four)

radicand : (w l x d m : ℕ) → x * l ≡ m * d → x * (4 * (w * l * (w * l))) ≡ 4 * (w * w) * (m * l) * d
radicand w l x d m e = simp products (simp products at (ap (λ (z : ℕ). z * (4 * (w * w * l))) e))

in_parts : (M w l : ℕ) → M * (4 * (w * l)) ≡ M * (2 * w) * (l * 2)
in_parts M w l = simp products

doubled : (r w l : ℕ) → r * (4 * (w * l)) ≡ 2 * r * (2 * w) * l
doubled r w l = simp products

-- a / d is g / l, and s / c, and r / l
same_count : (a d l g s c r : ℕ) → 0 < d → 0 < c → a * l ≡ g * d → a * c ≡ s * d → s * l ≡ r * c → g ≡ r
same_count a d l g s c r D C e i j =
    eq_of_mul-eq-mul_right (d * c) (mul-pos D C) g r
    (sym (mul_assoc g d c) ∙ ap (λ (z : ℕ). z * c) (sym e) ∙ mul_right_comm a l c ∙ ap (λ (z : ℕ). z * l) i ∙ mul_right_comm s d l ∙ ap (λ (z : ℕ). z * d) j ∙ mul_assoc r c d ∙ ap (λ (z : ℕ). r * z) (mul_comm c d))

-- from squares back to fractions: M / l is a / b, and q / l² is x / d
module _ (a b M l q x d : ℕ) (B : 0 < b) (D : 0 < d) (e : a * l ≡ M * b) (i : q * d ≡ x * (l * l)) where
  left : a * a * d * (l * l) ≡ M * M * (b * b * d)
  left = simp products (simp products at (ap (λ (z : ℕ). z * z * d) e))

  right : 4 * q * (b * b * d) ≡ 4 * x * (b * b) * (l * l)
  right = simp products (simp products at (ap (λ (z : ℕ). 4 * z * (b * b)) i))

  from_less : M * M < 4 * q → a * a * d < 4 * x * (b * b)
  from_less h =
      lt_of_mul-lt-mul_right (l * l)
      (lt_of_le_of_lt (le_of_eq left) (lt_of_lt_of_le (mul-lt-mul_of_pos_right h (mul-pos (mul-pos B B) D)) (le_of_eq right)))

  from_more : 4 * q < M * M → 4 * x * (b * b) < a * a * d
  from_more h =
      lt_of_mul-lt-mul_right (l * l)
      (lt_of_le_of_lt (le_of_eq (sym right)) (lt_of_lt_of_le (mul-lt-mul_of_pos_right h (mul-pos (mul-pos B B) D)) (le_of_eq (sym left))))

-- ---- of a format the proofs use two facts

-- `root_of` takes a root in parts of 1, and 4 w of them are a unit
record Parts (f : Format) (w : ℕ) : Type 0 where
  pub some : 0 < w
  pub whole : 4 * (w * 2 ^ low f) ≡ 2 ^ 2272
  pub square : 4 * (w * 2 ^ low f * (w * 2 ^ low f)) ≡ 2 ^ 4542

parts : (f : Format) → (w : ℕ) × Parts f w
parts binary32 = (2 ^ 2121, record { some = pow_pos 2121; whole = refl; square = refl })
parts binary64 = (2 ^ 1196, record { some = pow_pos 1196; whole = refl; square = refl })

-- no root reaches 2 ^ h, which the format has
record Limit (f : Format) (h : ℕ) : Type 0 where
  pub twice : 2 ^ h * 2 ^ h ≡ 2 ^ suc (emax f)
  pub inside : h < suc (emax f)

limit : (f : Format) → (h : ℕ) × Limit f h
limit binary32 = (64, record { twice = refl; inside = lit< tt })
limit binary64 = (512, record { twice = refl; inside = lit< tt })

-- 2 ^ j units are a value of the format
power_positive : (f : Format) (a c j : ℕ) → 0 < a → 0 < c → j < low f + suc (emax f) → a * 2 ^ low f ≡ 2 ^ j * c → T (positive (round f false a c))
power_positive f a c j A C h e =
    let one : 1 * 2 ^ j ≡ 2 ^ j = one-mul (2 ^ j) in
    positive_of_value (round f false a c) a c
    (round_exact f false a c 1 j C (pow-lt {i = 0} (two-le_pos (prec f) (two f))) (subst (λ (z : ℕ). z < 2 ^ (low f + suc (emax f))) (sym one) (pow-lt h)) (e ∙ ap (λ (z : ℕ). z * c) (sym one)))
    A

-- ---- y is the rounded root of a value of m units. Since l units are 1, the exact root is √q units with q = m l

module _ (f : Format) (w h m : ℕ) (W : 0 < w) (H : Limit f h) (some : 0 < m) (bound : m < 2 ^ suc (emax f) * 2 ^ low f) (digits : Short (prec f) m) where
  abbrev l : ℕ
  l = 2 ^ low f

  abbrev q : ℕ
  q = m * l

  abbrev s : ℕ
  s = root_twice (4 * (w * w) * q)

  abbrev y : Float
  y = round f false s (4 * (w * l))

  L : 0 < l
  L = pow_pos (low f)

  C : 0 < 4 * (w * l)
  C = mul-pos (zero-lt-suc 3) (mul-pos W L)

  -- ---- y is finite and above zero

  least : 1 * (4 * (w * l)) ≤ s * l
  least = le_trans (le_of_eq (doubled 1 w l)) (mul-le-mul_right l (of_scaled_within w q W 2 (mul-le-mul_left 4 (mul-pos some L))))

  most : s * l ≤ 2 ^ h * l * (4 * (w * l))
  most =
      let k = 2 ^ h in
      let a : q ≤ k * l * (k * l) = le_trans (mul-le-mul_right l (le_of_lt bound)) (le_of_eq (ap (λ (z : ℕ). z * l * l) (sym H.twice) ∙ mul_assoc (k * k) l l ∙ mul-mul-mul_comm k k l l)) in
      let b : 4 * q ≤ 2 * (k * l) * (2 * (k * l)) = le_trans (mul-le-mul_left 4 a) (le_of_eq (mul-mul-mul_comm 2 2 (k * l) (k * l))) in
      le_trans (mul-le-mul_right l (of_scaled_beyond w q W (2 * (k * l)) b)) (le_of_eq (sym (doubled (k * l) w l)))

  limit_units : 2 ^ h * l ≡ 2 ^ (low f + h)
  limit_units = mul_comm (2 ^ h) l ∙ sym (pow-add 2 (low f) h)

  y_positive : T (positive y)
  y_positive =
      let i = H.inside in
      between (round f false 1 l) y (round f false (2 ^ h) 1)
      (power_positive f 1 l 0 (zero-lt-suc 0) L (omega arith) refl)
      (power_positive f (2 ^ h) 1 (low f + h) (pow_pos h) (zero-lt-suc 0) (omega arith) (limit_units ∙ sym (mul-one (2 ^ (low f + h)))))
      (round_mono f 1 l s (4 * (w * l)) L C least)
      (round_mono f s (4 * (w * l)) (2 ^ h) 1 C (zero-lt-suc 0) (le_trans (le_of_eq (mul-one s)) (le_of_mul-le-mul_right (le_trans most (le_of_eq (mul_right_comm (2 ^ h) l (4 * (w * l))))) L)))

  -- y is g units
  abbrev g : ℕ
  g = grid f s (4 * (w * l))

  y_is : num y * l ≡ g * den y
  y_is = value→cross y g l (round_val f s (4 * (w * l)) (round_under f s (4 * (w * l)) (positive-finite y y_positive)))

  -- ---- where the root is a whole number r of units, it is y

  module _ (r : ℕ) (root : r * r ≡ q) where
    r_short : Short (prec f) r
    r_short = short_root (prec f) digits.0 (digits.1 + low f) r (two-le_pos (prec f) (two f)) digits.2 (root ∙ ap (λ (z : ℕ). z * l) digits.3 ∙ mul_assoc digits.0 (2 ^ digits.1) l ∙ ap (λ (z : ℕ). digits.0 * z) (sym (pow-add 2 digits.1 (low f))))

    r_is : s * l ≡ r * (4 * (w * l))
    r_is =
        let a : 2 * r * (2 * r) ≡ 4 * q = mul-mul-mul_comm 2 r 2 r ∙ ap (λ (z : ℕ). 4 * z) root in
        ap (λ (z : ℕ). z * l) (le_antisymm (of_scaled_beyond w q W (2 * r) (le_of_eq (sym a))) (of_scaled_within w q W (2 * r) (le_of_eq a))) ∙ sym (doubled r w l)

    r_under : r < 2 ^ (low f + suc (emax f))
    r_under =
        let i = H.inside in
        lt_of_le_of_lt (le_of_mul-le-mul_right (le_trans (le_of_eq (sym r_is)) most) C) (lt_of_le_of_lt (le_of_eq limit_units) (pow-lt {i = low f + h} {j = low f + suc (emax f)} (omega arith)))

    exact_root : g ≡ r
    exact_root =
        let e = r_short.3 in
        same_count (num y) (den y) l g s (4 * (w * l)) r (den_pos y) C y_is
        (value→cross y s (4 * (w * l))
        (round_exact f false s (4 * (w * l)) r_short.0 r_short.1 C r_short.2 (subst (λ (z : ℕ). z < 2 ^ (low f + suc (emax f))) e r_under) (r_is ∙ ap (λ (z : ℕ). z * (4 * (w * l))) e)))
        r_is

  -- ---- y beside another value z: the middle of both is half of M units

  module _ (z : Float) (in_z : Units f z) where
    abbrev M : ℕ
    M = g + in_z.count

    near : Nearest (s * l) (4 * (w * l)) g in_z.count
    near = round_nearest f s (4 * (w * l)) in_z.count C in_z.digits

    no_tie : M * M ≡ 4 * q → g ≡ in_z.count
    no_tie e = let r = halved M q e in omega (arith, exact_root r.0 r.2, r.1)

    M-less : in_z.count < g → M * M < 4 * q
    M-less k =
        lt_of_le-ne
        (scaled_within w q W M (le_of_mul-le-mul_right (le_trans (le_of_eq (sym (in_parts M w l))) (le_trans (near.0 k) (le_of_eq (mul_assoc s l 2)))) (mul-pos L (zero-lt-suc 1))))
        (λ (e : M * M ≡ 4 * q). omega (arith, no_tie e))

    M-more : g < in_z.count → 4 * q < M * M
    M-more k =
        lt_of_le-ne
        (scaled_beyond w q W M (le_of_mul-le-mul_right (le_trans (le_of_eq (sym (mul_assoc s l 2))) (le_trans (near.1 k) (le_of_eq (in_parts M w l)))) (mul-pos L (zero-lt-suc 1))))
        (λ (e : 4 * q ≡ M * M). omega (arith, no_tie (sym e)))

    sum_is : sum_top y z * l ≡ M * sum_bottom y z
    sum_is = units_sum (num y) (den y) (num z) (den z) l g in_z.count y_is in_z.is

    bottom_pos : 0 < sum_bottom y z
    bottom_pos = mul-pos (den_pos y) (den_pos z)

    module _ (x : Float) (is : num x * l ≡ m * den x) where
      q_is : q * den x ≡ num x * (l * l)
      q_is = mul_right_comm m l (den x) ∙ ap (λ (k : ℕ). k * l) (sym is) ∙ mul_assoc (num x) l l

      middle_below : num z * den y < num y * den z → MiddleBelow x y z
      middle_below k =
          from_less (sum_top y z) (sum_bottom y z) M l q (num x) (den x) bottom_pos (den_pos x) sum_is q_is
          (M-less (units_lt (num z) (den z) (num y) (den y) l in_z.count g L in_z.is y_is k))

      middle_above : num y * den z < num z * den y → MiddleAbove x y z
      middle_above k =
          from_more (sum_top y z) (sum_bottom y z) M l q (num x) (den x) bottom_pos (den_pos x) sum_is q_is
          (M-more (units_lt (num y) (den y) (num z) (den z) l g in_z.count L y_is in_z.is k))

  law : (x : Float) → num x * l ≡ m * den x → NearestRoot f x y
  law x is = record {
    held = round-fits f false s (4 * (w * l));
    above_zero = y_positive;
    from_below = λ z F n k. let c = below_cross z y n y_positive k in middle_below z (in_units f z F c.0) x is c.1;
    from_above = λ z F n k. middle_above z (in_units f z F n) x is (above_cross y z y_positive n k);
  }

-- ---- the law of `sqrt_of`

root_of_is : (f : Format) (w : ℕ) → Parts f w → (x d m : ℕ) → 0 < d → x * 2 ^ low f ≡ m * d → root_of f x d ≡ round f false (root_twice (4 * (w * w) * (m * 2 ^ low f))) (4 * (w * 2 ^ low f))
root_of_is f w P x d m D e =
    ap (λ (z : ℕ). round f false (root_twice (x * z / d)) (2 ^ 2272)) (sym P.square)
    ∙ ap (λ (z : ℕ). round f false (root_twice (z / d)) (2 ^ 2272)) (radicand w (2 ^ low f) x d m e)
    ∙ ap (λ (z : ℕ). round f false (root_twice z) (2 ^ 2272)) (mul-div_cancel (4 * (w * w) * (m * 2 ^ low f)) D)
    ∙ ap (λ (z : ℕ). round f false (root_twice (4 * (w * w) * (m * 2 ^ low f))) z) (sym P.whole)

nearest_root_of : (f : Format) (x : Float) → Units f x → 0 < num x → num x < 2 ^ suc (emax f) * den x → NearestRoot f x (root_of f (num x) (den x))
nearest_root_of f x u some bound =
    let w = parts f in
    let h = limit f in
    let L = pow_pos (low f) in
    subst (λ (r : Float). NearestRoot f x r) (sym (root_of_is f w.0 w.1 (num x) (den x) u.count (den_pos x) u.is))
    (law f w.0 h.0 u.count w.1.some h.1 (some_units (num x) (den x) (2 ^ low f) u.count some L u.is) (few_units (num x) (den x) (2 ^ low f) u.count (2 ^ suc (emax f)) L u.is bound) u.digits x u.is)

pub nearest_root : (f : Format) (x : Float) → T (fits f x) → T (positive x) → NearestRoot f x (sqrt_of f x)
unfolding sqrt_of
nearest_root f nan F p = absurd p
nearest_root f (inf s) F p = absurd p
nearest_root f (fin true m e) F p = absurd p
nearest_root f (fin false zero e) F p = absurd p
nearest_root f (fin false (suc m) e) F p = nearest_root_of f (fin false (suc m) e) (in_units f (fin false (suc m) e) F tt) (mul-pos (zero-lt-suc m) (up_pos e)) (fitting f false m e F).under

-- ---- the standard library's root is the one defined here

pub same_root : (f : Format) (x : Float) → T (fits f x) → Floats.sqrt f x ≡ sqrt_of f x
unfolding Floats.sqrt sqrt_of
same_root f nan F = refl
same_root f (inf true) F = refl
same_root f (inf false) F = refl
same_root f (fin s zero e) F = ap (λ (d : ℤ). fin s 0 d) (sym (zero_exponent f s e F))
same_root f (fin true (suc m) e) F = refl
same_root f (fin false (suc m) e) F = refl
