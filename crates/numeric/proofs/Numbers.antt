-- Sums and products that are no NaN where a part may be infinite, and their order. Assumes nothing.
use Rattle.std.proofs.Common.{◌≡◌, ℕ, suc, ◌*◌, Bool, true, false, cond, not, T, ℤ, sym, refl, ap, ◌∙◌, subst}
use lib.Dec.{eqb-suc-zero}
use lib.Ieee.{Float, nan, inf, fin, Format, up, down, unlike, round, add, mul, le, is_nan}
use lib.Ieee.Scale.{finite}
use Rattle.numeric.proofs.Rounding.{Signed, round_signed}
use Rattle.numeric.proofs.Operations.{add_mono, mul_mono_l}
use Rattle.numeric.proofs.Programs.{le_refl_f}
use Rattle.numeric.proofs.Order.{le_inf, number_above}
use Rattle.numeric.proofs.Tests.{is_on}

signed_number : (s : Bool) (x : Float) → Signed s x → T (not (is_nan x))
unfolding is_nan
signed_number s nan h = absurd h
signed_number s (inf t) h = tt
signed_number s (fin t m e) h = tt

-- a number and a finite value
pub add_number : (f : Format) (x y : Float) → T (not (is_nan x)) → T (finite y) → T (not (is_nan (add f x y)))
add_number f nan y n Y = absurd (unfold is_nan in n)
add_number f (inf s) nan n Y = absurd Y
add_number f (inf s) (inf t) n Y = absurd Y
add_number f (inf s) (fin t k d) n Y = unfold add is_nan in tt
add_number f (fin s m e) y n Y = let x = fin s m e in number_above (add f x y) (add f x y) (add_mono f x x y y tt tt Y Y (le_refl_f x tt) (le_refl_f y Y))

-- a finite value that is not zero, and a number
pub mul_number : (f : Format) (s : Bool) (m : ℕ) (e : ℤ) (y : Float) → T (not (is_nan y)) → T (not (is_nan (mul f (fin s (suc m) e) y)))
mul_number f s m e nan n = absurd (unfold is_nan in n)
mul_number f s m e (inf t) n = unfold mul in subst (λ (b : Bool). T (not (is_nan (cond b nan (inf (unlike s t)))))) (sym (eqb-suc-zero m)) (unfold is_nan in tt)
mul_number f s m e (fin t k d) n = unfold mul in signed_number (unlike s t) (round f (unlike s t) (suc m * up e * (k * up d)) (down e * down d)) (round_signed f (unlike s t) (suc m * up e * (k * up d)) (down e * down d))

pub number_mul : (f : Format) (x : Float) (t : Bool) (k : ℕ) (d : ℤ) → T (not (is_nan x)) → T (not (is_nan (mul f x (fin t (suc k) d))))
number_mul f nan t k d n = absurd (unfold is_nan in n)
number_mul f (inf s) t k d n = unfold mul in subst (λ (b : Bool). T (not (is_nan (cond b nan (inf (unlike s t)))))) (sym (eqb-suc-zero k)) (unfold is_nan in tt)
number_mul f (fin s m e) t k d n = unfold mul in signed_number (unlike s t) (round f (unlike s t) (m * up e * (suc k * up d)) (down e * down d)) (round_signed f (unlike s t) (m * up e * (suc k * up d)) (down e * down d))

-- a product with a value above zero keeps the order in its first part, where that may be infinite
pub mul_from : (f : Format) (a x : Float) (k : ℕ) (d : ℤ) → T (finite a) → T (le a x) → T (le (mul f a (fin false (suc k) d)) (mul f x (fin false (suc k) d)))
mul_from f nan x k d A h = absurd A
mul_from f (inf s) x k d A h = absurd A
mul_from f (fin s m e) nan k d A h = absurd (unfold le in h)
mul_from f (fin s m e) (inf true) k d A h = absurd (unfold le in h)
mul_from f (fin s m e) (inf false) k d A h =
    let c = fin false (suc k) d in
    subst (λ (y : Float). T (le (mul f (fin s m e) c) y)) (sym infinite) (le_inf (mul f (fin s m e) c) (number_mul f (fin s m e) false k d (unfold is_nan in tt)))
  where
    infinite : mul f (inf false) (fin false (suc k) d) ≡ inf false
    infinite = unfold mul in subst (λ (b : Bool). cond b nan (inf false) ≡ inf false) (sym (eqb-suc-zero k)) refl
mul_from f (fin s m e) (fin t n g) k d A h = mul_mono_l f (fin s m e) (fin t n g) (fin false (suc k) d) tt tt tt refl h

-- ---- a bound that the values of all numbers keep to tells a number from a NaN, where the NaN stays
le_nan : (a : Float) → le a nan ≡ false
unfolding le
le_nan nan = refl
le_nan (inf s) = refl
le_nan (fin s m e) = refl

nan_le : (b : Float) → le nan b ≡ false
unfolding le
nan_le b = refl

pub tells_above : (g : Float → Float) (a x : Float) → g nan ≡ nan → (T (not (is_nan x)) → T (le a (g x))) → le a (g x) ≡ not (is_nan x)
tells_above g a nan e h = ap (le a) e ∙ le_nan a ∙ unfold is_nan in refl
tells_above g a (inf s) e h = is_on (le a (g (inf s))) (h (unfold is_nan in tt)) ∙ unfold is_nan in refl
tells_above g a (fin s m k) e h = is_on (le a (g (fin s m k))) (h (unfold is_nan in tt)) ∙ unfold is_nan in refl

pub tells_below : (g : Float → Float) (b x : Float) → g nan ≡ nan → (T (not (is_nan x)) → T (le (g x) b)) → le (g x) b ≡ not (is_nan x)
tells_below g b nan e h = ap (λ (y : Float). le y b) e ∙ nan_le b ∙ unfold is_nan in refl
tells_below g b (inf s) e h = is_on (le (g (inf s)) b) (h (unfold is_nan in tt)) ∙ unfold is_nan in refl
tells_below g b (fin s m k) e h = is_on (le (g (fin s m k)) b) (h (unfold is_nan in tt)) ∙ unfold is_nan in refl

pub inf_le : (x : Float) → T (not (is_nan x)) → T (le (inf true) x)
inf_le nan n = absurd (unfold is_nan in n)
inf_le (inf true) n = unfold le in tt
inf_le (inf false) n = unfold le in tt
inf_le (fin s m e) n = unfold le in tt
