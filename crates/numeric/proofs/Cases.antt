-- Two functions agree on every value of a format that is no NaN, where they agree at the infinities, at the zeros and at the rest. Assumes nothing.
use Rattle.std.proofs.Common.{◌≡◌, ℕ, zero, suc, Bool, true, false, cond, not, T, ℤ, pos, sym, ap, ◌∙◌}
use lib.Ieee.{Float, Format, nan, inf, fin, fits, is_nan}
use Rattle.numeric.proofs.Words.{zero_exponent}

pub record Agree (g h : Float → Float) : Type 0 where
  pub at_minus : g (inf true) ≡ h (inf true)
  pub at_plus : g (inf false) ≡ h (inf false)
  pub at_zero : (s : Bool) → g (fin s 0 (pos 0)) ≡ h (fin s 0 (pos 0))
  pub elsewhere : (s : Bool) (m : ℕ) (e : ℤ) → g (fin s (suc m) e) ≡ h (fin s (suc m) e)

pub agree : (f : Format) (g h : Float → Float) → Agree g h → (x : Float) → T (fits f x) → T (not (is_nan x)) → g x ≡ h x
agree f g h a nan p n = absurd (unfold is_nan in n)
agree f g h a (inf true) p n = a.at_minus
agree f g h a (inf false) p n = a.at_plus
agree f g h a (fin s zero e) p n =
    let z = zero_exponent f s e p in
    ap (λ (d : ℤ). g (fin s 0 d)) z ∙ a.at_zero s ∙ ap (λ (d : ℤ). h (fin s 0 d)) (sym z)
agree f g h a (fin s (suc m) e) p n = a.elsewhere s m e

-- so a function that keeps a NaN by a test, and is g of every other value, is h
pub tested : (f : Format) (g h : Float → Float) → Agree g h → h nan ≡ nan → (x : Float) → T (fits f x) → cond (is_nan x) x (g x) ≡ h x
tested f g h a n nan p = unfold is_nan in sym n
tested f g h a n (inf s) p = unfold is_nan in agree f g h a (inf s) p (unfold is_nan in tt)
tested f g h a n (fin s m e) p = unfold is_nan in agree f g h a (fin s m e) p (unfold is_nan in tt)
