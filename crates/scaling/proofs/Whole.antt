-- The steps of `scalbn`, by the number that they end at. Assumes nothing.
use Rattle.std.proofs.Common.{◌≡◌, ℕ, zero, suc, ◌+◌, ◌-◌, ◌*◌, ◌<◌, ◌≤◌, false, T, ℤ, pos, negsuc, ◌+ℤ◌, ◌-ℤ◌, ◌≤ℤ◌, sym, refl, ap, ◌∙◌, subst, suc-le-suc, le_trans, arith, lit≤}
use lib.Ieee.{Float, Format, nan, inf, fin, prec, emax, low, up, down, fits, mul, neg, is_nan}
use lib.Ieee.Fits.{round-fits, nan-fits, inf-fits, down_pos}
use Rattle.std.proofs.lemmas.Int.{ints}
use Rattle.scaling.proofs.Steps.{up_step, down_step, top_same, bottom_same, zero_stays}
use Rattle.scaling.proofs.Product.{product_of}
use Rattle.scaling.proofs.Powers.{by_product}
use Rattle.scaling.proofs.Signs.{product_nan, product_neg}
use Rattle.scaling.specs.Scalbn.{scalbn_of}

-- ---- the definition is the product, the zeros included
scalbn_product : (f : Format) (x : Float) (n : ℤ) → scalbn_of f x n ≡ product_of f x n
unfolding scalbn_of product_of
scalbn_product f nan n = refl
scalbn_product f (inf s) n = refl
scalbn_product f (fin s zero e) n = sym (zero_stays f s e (up n) (down n) (down_pos n))
scalbn_product f (fin s (suc m) e) n = refl

product_is : (f : Format) → product_of f ≡ scalbn_of f
product_is f i x n = sym (scalbn_product f x n) i

-- ---- so what holds of the product holds of it
pub scaled_fits : (f : Format) (x : Float) (n : ℤ) → T (fits f (scalbn_of f x n))
scaled_fits f x n = subst (λ (y : Float). T (fits f y)) (sym (scalbn_product f x n)) (product_fits x)
  where
    product_fits : (y : Float) → T (fits f (product_of f y n))
    product_fits nan = unfold product_of in nan-fits f
    product_fits (inf s) = unfold product_of in inf-fits f s
    product_fits (fin s m e) = unfold product_of in round-fits f s (m * up e * up n) (down e * down n)

-- the product with the value 2 ^ n is the scaled value: one rounding
pub by_power : (f : Format) (x : Float) (n : ℤ) → mul f x (fin false 1 n) ≡ scalbn_of f x n
by_power f x n = by_product f x n ∙ sym (scalbn_product f x n)

pub scaled_nan : (f : Format) (x : Float) (n : ℤ) → is_nan (scalbn_of f x n) ≡ is_nan x
scaled_nan f x n = ap is_nan (scalbn_product f x n) ∙ product_nan f x n

pub scaled_neg : (f : Format) (x : Float) (n : ℤ) → scalbn_of f (neg x) n ≡ neg (scalbn_of f x n)
scaled_neg f x n = scalbn_product f (neg x) n ∙ product_neg f x n ∙ ap neg (sym (scalbn_product f x n))

-- ---- the steps of the code, by the number that they end at
module _ (f : Format) (x : Float) (ok : T (fits f x)) where
  pub up_twice : (k n : ℕ) → scalbn_of f (scalbn_of f x (pos k)) (pos n) ≡ scalbn_of f x (pos (k + n))
  up_twice k n = subst (λ (g : Float → ℤ → Float). g (g x (pos k)) (pos n) ≡ g x (pos (k + n))) (product_is f) (up_step f x k n ok)

  pub down_twice : (k n : ℕ) → prec f < suc n → scalbn_of f (scalbn_of f x (negsuc k)) (negsuc n) ≡ scalbn_of f x (negsuc (suc k + n))
  down_twice k n h = subst (λ (g : Float → ℤ → Float). g (g x (negsuc k)) (negsuc n) ≡ g x (negsuc (suc k + n))) (product_is f) (down_step f x k n ok h)

  pub top_alike : (n k : ℕ) → low f + suc (emax f) ≤ n → low f + suc (emax f) ≤ k → scalbn_of f x (pos n) ≡ scalbn_of f x (pos k)
  top_alike n k h g = subst (λ (p : Float → ℤ → Float). p x (pos n) ≡ p x (pos k)) (product_is f) (top_same f x n k h g ok)

  pub bottom_alike : (n k : ℕ) → low f + suc (emax f) ≤ n → low f + suc (emax f) ≤ k → scalbn_of f x (negsuc n) ≡ scalbn_of f x (negsuc k)
  bottom_alike n k h g = subst (λ (p : Float → ℤ → Float). p x (negsuc n) ≡ p x (negsuc k)) (product_is f) (bottom_same f x n k h g ok)

-- ---- up to three steps by 2 ^ u, and up to two by 2 ^ - (d + 1) and one more
module _ (f : Format) (x : Float) (ok : T (fits f x)) where
  abbrev sc : Float → ℤ → Float
  sc = scalbn_of f

  two_up : (u n : ℕ) → sc (sc (sc x (pos u)) (pos u)) (pos n) ≡ sc x (pos (u + u + n))
  two_up u n = up_twice f (sc x (pos u)) (scaled_fits f x (pos u)) u n ∙ up_twice f x ok u (u + n) ∙ ap (λ (z : ℕ). sc x (pos z)) (sum u n)
    where
      sum : (u n : ℕ) → u + (u + n) ≡ u + u + n
      sum u n = omega arith

  pub raised_once : (u : ℕ) (n : ℤ) → pos u ≤ℤ n → sc (sc x (pos u)) (n -ℤ pos u) ≡ sc x n
  raised_once u (pos n) h =
      let e : pos n -ℤ pos u ≡ pos (n - u) = omega (arith, ints) in
      let k : u + (n - u) ≡ n = omega (arith, ints) in
      ap (sc (sc x (pos u))) e ∙ up_twice f x ok u (n - u) ∙ ap (λ (z : ℕ). sc x (pos z)) k
  raised_once u (negsuc n) h = absurd (omega (arith, ints))

  pub raised_twice : (u : ℕ) (n : ℤ) → pos (u + u) ≤ℤ n → sc (sc (sc x (pos u)) (pos u)) (n -ℤ pos (u + u)) ≡ sc x n
  raised_twice u (pos n) h =
      let e : pos n -ℤ pos (u + u) ≡ pos (n - (u + u)) = omega (arith, ints) in
      let k : u + u + (n - (u + u)) ≡ n = omega (arith, ints) in
      ap (sc (sc (sc x (pos u)) (pos u))) e ∙ two_up u (n - (u + u)) ∙ ap (λ (z : ℕ). sc x (pos z)) k
  raised_twice u (negsuc n) h = absurd (omega (arith, ints))

  pub raised_out : (u : ℕ) (n : ℤ) → low f + suc (emax f) ≤ u + u + u → pos (u + u + u) ≤ℤ n → sc (sc (sc x (pos u)) (pos u)) (pos u) ≡ sc x n
  raised_out u (pos n) b h = two_up u u ∙ top_alike f x ok (u + u + u) n b (le_trans b (under (u + u + u) n h))
    where
      under : (t n : ℕ) → pos t ≤ℤ pos n → t ≤ n
      under t n h = omega (arith, ints)
  raised_out u (negsuc n) b h = absurd (omega (arith, ints))

  one_down : (d n : ℕ) → prec f ≤ n → sc (sc x (negsuc d)) (negsuc n) ≡ sc x (negsuc (suc d + n))
  one_down d n h = down_twice f x ok d n (suc-le-suc h)

  two_down : (d n : ℕ) → prec f ≤ n → sc (sc (sc x (negsuc d)) (negsuc d)) (negsuc n) ≡ sc x (negsuc (suc d + suc d + n))
  two_down d n h = down_twice f (sc x (negsuc d)) (scaled_fits f x (negsuc d)) d n (suc-le-suc h) ∙ one_down d (suc d + n) (more (prec f) d n h) ∙ ap (λ (z : ℕ). sc x (negsuc z)) (sum d n)
    where
      sum : (d n : ℕ) → suc d + (suc d + n) ≡ suc d + suc d + n
      sum d n = omega arith

      more : (p d n : ℕ) → p ≤ n → p ≤ suc d + n
      more p d n h = omega arith

  pub lowered_once : (d : ℕ) (n : ℤ) → n ≤ℤ negsuc (suc d + prec f) → sc (sc x (negsuc d)) (n +ℤ pos (suc d)) ≡ sc x n
  lowered_once d (pos n) h = absurd (omega (arith, ints))
  lowered_once d (negsuc n) h =
      let e : negsuc n +ℤ pos (suc d) ≡ negsuc (n - suc d) = omega (arith, ints) in
      let k : suc d + (n - suc d) ≡ n = omega (arith, ints) in
      ap (sc (sc x (negsuc d))) e ∙ one_down d (n - suc d) (omega (arith, ints)) ∙ ap (λ (z : ℕ). sc x (negsuc z)) k

  pub lowered_twice : (d : ℕ) (n : ℤ) → n ≤ℤ negsuc (suc d + suc d + prec f) → sc (sc (sc x (negsuc d)) (negsuc d)) (n +ℤ pos (suc d + suc d)) ≡ sc x n
  lowered_twice d (pos n) h = absurd (omega (arith, ints))
  lowered_twice d (negsuc n) h =
      let e : negsuc n +ℤ pos (suc d + suc d) ≡ negsuc (n - (suc d + suc d)) = omega (arith, ints) in
      let k : suc d + suc d + (n - (suc d + suc d)) ≡ n = omega (arith, ints) in
      ap (sc (sc (sc x (negsuc d)) (negsuc d))) e ∙ two_down d (n - (suc d + suc d)) (omega (arith, ints)) ∙ ap (λ (z : ℕ). sc x (negsuc z)) k

  pub lowered_out : (d b : ℕ) (n : ℤ) → prec f ≤ b → low f + suc (emax f) ≤ suc d + suc d + b → n ≤ℤ negsuc (suc d + suc d + b) → sc (sc (sc x (negsuc d)) (negsuc d)) (negsuc b) ≡ sc x n
  lowered_out d b (pos n) p o h = absurd (omega (arith, ints))
  lowered_out d b (negsuc n) p o h = two_down d b p ∙ bottom_alike f x ok (suc d + suc d + b) n o (le_trans o (under (suc d + suc d + b) n h))
    where
      under : (t n : ℕ) → negsuc n ≤ℤ negsuc t → t ≤ n
      under t n h = omega (arith, ints)

-- ---- the steps by their own numbers: up by 2 ^ emax, down by what the least normal exponent and the digits make
spans : (f : Format) → (suc (emax f - 2 - prec f) + prec f ≡ emax f - 1) × (low f + suc (emax f) ≤ emax f + emax f + emax f) × (prec f ≤ emax f - 2) × (low f + suc (emax f) ≤ suc (emax f - 2 - prec f) + suc (emax f - 2 - prec f) + (emax f - 2))
spans lib.Ieee.binary32 = (refl, lit≤ tt, lit≤ tt, lit≤ tt)
spans lib.Ieee.binary64 = (refl, lit≤ tt, lit≤ tt, lit≤ tt)

module _ (f : Format) (x : Float) (ok : T (fits f x)) where
  abbrev sf : Float → ℤ → Float
  sf = scalbn_of f

  pub up_once : (e n : ℤ) → e ≡ pos (emax f) → e ≤ℤ n → sf (sf x e) (n -ℤ e) ≡ sf x n
  up_once e n h k = subst (λ (z : ℤ). sf (sf x z) (n -ℤ z) ≡ sf x n) (sym h) (raised_once f x ok (emax f) n (subst (λ (z : ℤ). z ≤ℤ n) h k))

  pub up_again : (e n : ℤ) → e ≡ pos (emax f) → e ≤ℤ (n -ℤ e) → sf (sf (sf x e) e) (n -ℤ e -ℤ e) ≡ sf x n
  up_again e n h k = subst (λ (z : ℤ). sf (sf (sf x z) z) (n -ℤ z -ℤ z) ≡ sf x n) (sym h) (plain (emax f) n (subst (λ (z : ℤ). z ≤ℤ (n -ℤ z)) h k))
    where
      plain : (u : ℕ) (n : ℤ) → pos u ≤ℤ (n -ℤ pos u) → sf (sf (sf x (pos u)) (pos u)) (n -ℤ pos u -ℤ pos u) ≡ sf x n
      plain u n g = (let e : n -ℤ pos u -ℤ pos u ≡ n -ℤ pos (u + u) = omega (arith, ints) in ap (sf (sf (sf x (pos u)) (pos u))) e ∙ raised_twice f x ok u n (omega (arith, ints)))

  pub up_out : (e n : ℤ) → e ≡ pos (emax f) → e ≤ℤ (n -ℤ e -ℤ e) → sf (sf (sf x e) e) e ≡ sf x n
  up_out e n h k = subst (λ (z : ℤ). sf (sf (sf x z) z) z ≡ sf x n) (sym h) (plain (emax f) n (spans f).1 (subst (λ (z : ℤ). z ≤ℤ (n -ℤ z -ℤ z)) h k))
    where
      plain : (u : ℕ) (n : ℤ) → low f + suc (emax f) ≤ u + u + u → pos u ≤ℤ (n -ℤ pos u -ℤ pos u) → sf (sf (sf x (pos u)) (pos u)) (pos u) ≡ sf x n
      plain u n b g = raised_out f x ok u n b (omega (arith, ints))

  pub down_once : (e n : ℤ) → e ≡ negsuc (emax f - 2 - prec f) → n ≤ℤ negsuc (emax f - 1) → sf (sf x e) (n -ℤ e) ≡ sf x n
  down_once e n h k = subst (λ (z : ℤ). sf (sf x z) (n -ℤ z) ≡ sf x n) (sym h) (plain (emax f - 2 - prec f) n (subst (λ (z : ℕ). n ≤ℤ negsuc z) (sym (spans f).0) k))
    where
      plain : (d : ℕ) (n : ℤ) → n ≤ℤ negsuc (suc d + prec f) → sf (sf x (negsuc d)) (n -ℤ negsuc d) ≡ sf x n
      plain d n g = (let e : n -ℤ negsuc d ≡ n +ℤ pos (suc d) = omega (arith, ints) in ap (sf (sf x (negsuc d))) e ∙ lowered_once f x ok d n g)

  pub down_again : (e n : ℤ) → e ≡ negsuc (emax f - 2 - prec f) → (n -ℤ e) ≤ℤ negsuc (emax f - 1) → sf (sf (sf x e) e) (n -ℤ e -ℤ e) ≡ sf x n
  down_again e n h k = subst (λ (z : ℤ). sf (sf (sf x z) z) (n -ℤ z -ℤ z) ≡ sf x n) (sym h) (plain (emax f - 2 - prec f) n (subst (λ (z : ℤ). (n -ℤ z) ≤ℤ negsuc (suc (emax f - 2 - prec f) + prec f)) h (subst (λ (z : ℕ). (n -ℤ e) ≤ℤ negsuc z) (sym (spans f).0) k)))
    where
      plain : (d : ℕ) (n : ℤ) → (n -ℤ negsuc d) ≤ℤ negsuc (suc d + prec f) → sf (sf (sf x (negsuc d)) (negsuc d)) (n -ℤ negsuc d -ℤ negsuc d) ≡ sf x n
      plain d n g = (let e : n -ℤ negsuc d -ℤ negsuc d ≡ n +ℤ pos (suc d + suc d) = omega (arith, ints) in ap (sf (sf (sf x (negsuc d)) (negsuc d))) e ∙ lowered_twice f x ok d n (omega (arith, ints)))

  pub down_out : (e l n : ℤ) → e ≡ negsuc (emax f - 2 - prec f) → l ≡ negsuc (emax f - 2) → (n -ℤ e -ℤ e) ≤ℤ l → sf (sf (sf x e) e) l ≡ sf x n
  down_out e l n h j k =
      subst (λ (z : ℤ). sf (sf (sf x z) z) l ≡ sf x n) (sym h)
      (subst (λ (y : ℤ). sf (sf (sf x (negsuc (emax f - 2 - prec f))) (negsuc (emax f - 2 - prec f))) y ≡ sf x n) (sym j)
      (plain (emax f - 2 - prec f) (emax f - 2) n (spans f).2 (spans f).3 (subst (λ (z : ℤ). (n -ℤ z -ℤ z) ≤ℤ negsuc (emax f - 2)) h (subst (λ (y : ℤ). (n -ℤ e -ℤ e) ≤ℤ y) j k))))
    where
      plain : (d b : ℕ) (n : ℤ) → prec f ≤ b → low f + suc (emax f) ≤ suc d + suc d + b → (n -ℤ negsuc d -ℤ negsuc d) ≤ℤ negsuc b → sf (sf (sf x (negsuc d)) (negsuc d)) (negsuc b) ≡ sf x n
      plain d b n p o g = lowered_out f x ok d b n p o (omega (arith, ints))
