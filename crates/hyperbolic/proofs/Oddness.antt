-- sinh and tanh are odd. Assumes nothing.
use Rattle.std.proofs.Common.{◌≡◌, ℕ, zero, suc, Bool, true, false, cond, ℤ, sym, refl, ap, ◌∙◌}
use lib.Ieee.{Float, nan, inf, fin, binary64, neg, of_bits}
use Rattle.std.specs.Float.{is_sign_negative, float_with_sign}
use Rattle.numeric.proofs.Signs.{neg-mul, mul-neg, by_size_odd, cond_neg}
use Rattle.float.specs.Band.{below_bits}
use Rattle.float.specs.Constants.{two}
use Rattle.float.specs.Double.{◌⊗◌}
use Rattle.float.specs.Odd.{Odd}
use Rattle.exponential.specs.Expm1.{expm1_of}
use Rattle.hyperbolic.specs.Expo2.{expo2_of}
use Rattle.hyperbolic.specs.Sinh as Sinh
use Rattle.hyperbolic.specs.Sinh.{half_like, near_of, mid_of, sinh_of}
use Rattle.hyperbolic.specs.Tanh as Tanh
use Rattle.hyperbolic.specs.Tanh.{size_of, tanh_of}

-- ---- tanh
tanh_turned : (s : Bool) (m : ℕ) (e : ℤ) → Tanh.bands_of (neg (fin s m e)) ≡ neg (Tanh.bands_of (fin s m e))
tanh_turned = by_size_odd size_of

pub tanh_odd : Odd tanh_of
tanh_odd nan = unfold tanh_of neg in refl
tanh_odd (inf true) = unfold tanh_of neg of_bits in refl
tanh_odd (inf false) = unfold tanh_of neg of_bits in refl
tanh_odd (fin s zero e) = unfold tanh_of neg in refl
tanh_odd (fin s (suc m) e) = let k = tanh_turned s (suc m) e in unfold tanh_of neg in k

-- ---- sinh
half_turned : (s : Bool) (m : ℕ) (e : ℤ) → half_like (neg (fin s m e)) ≡ neg (half_like (fin s m e))
unfolding neg is_sign_negative of_bits
half_turned true m e = refl
half_turned false m e = refl

times_half : (s : Bool) (m : ℕ) (e : ℤ) (t : Float) → half_like (neg (fin s m e)) ⊗ t ≡ neg (half_like (fin s m e) ⊗ t)
times_half s m e t = ap (λ (h : Float). h ⊗ t) (half_turned s m e) ∙ neg-mul binary64 (half_like (fin s m e)) t

twice_half : (s : Bool) (m : ℕ) (e : ℤ) (t : Float) → two binary64 ⊗ half_like (neg (fin s m e)) ⊗ t ≡ neg (two binary64 ⊗ half_like (fin s m e) ⊗ t)
twice_half s m e t =
    ap (λ (h : Float). two binary64 ⊗ h ⊗ t) (half_turned s m e) ∙ ap (λ (h : Float). h ⊗ t) (mul-neg binary64 (two binary64) (half_like (fin s m e)))
    ∙ neg-mul binary64 (two binary64 ⊗ half_like (fin s m e)) t

-- the bands by the size y, which both have
abbrev sinh_at : Float → Float → Float
sinh_at x y =
    cond (below_bits binary64 y 0x3e50000000000000) x
    (cond (below_bits binary64 y 0x3ff0000000000000) (half_like x ⊗ near_of (expm1_of y))
    (cond (below_bits binary64 y 0x40862e4200000000) (half_like x ⊗ mid_of (expm1_of y)) (two binary64 ⊗ half_like x ⊗ expo2_of y)))

at_turned : (s : Bool) (m : ℕ) (e : ℤ) (y : Float) → sinh_at (neg (fin s m e)) y ≡ neg (sinh_at (fin s m e) y)
at_turned s m e y =
    let x = fin s m e in
    let a = below_bits binary64 y 0x3ff0000000000000 in
    let b = below_bits binary64 y 0x40862e4200000000 in
    let u = near_of (expm1_of y) in
    let v = mid_of (expm1_of y) in
    let w = expo2_of y in
    cond_neg (below_bits binary64 y 0x3e50000000000000) x (cond a (half_like x ⊗ u) (cond b (half_like x ⊗ v) (two binary64 ⊗ half_like x ⊗ w)))
    (neg x) (cond a (half_like (neg x) ⊗ u) (cond b (half_like (neg x) ⊗ v) (two binary64 ⊗ half_like (neg x) ⊗ w))) refl
    (cond_neg a (half_like x ⊗ u) (cond b (half_like x ⊗ v) (two binary64 ⊗ half_like x ⊗ w)) (half_like (neg x) ⊗ u) (cond b (half_like (neg x) ⊗ v) (two binary64 ⊗ half_like (neg x) ⊗ w)) (times_half s m e u)
    (cond_neg b (half_like x ⊗ v) (two binary64 ⊗ half_like x ⊗ w) (half_like (neg x) ⊗ v) (two binary64 ⊗ half_like (neg x) ⊗ w) (times_half s m e v) (twice_half s m e w)))

at_size : (s : Bool) (m : ℕ) (e : ℤ) → Sinh.bands_of (fin s m e) ≡ sinh_at (fin s m e) (fin false m e)
unfolding float_with_sign
at_size s m e = refl

sinh_turned : (s : Bool) (m : ℕ) (e : ℤ) → Sinh.bands_of (neg (fin s m e)) ≡ neg (Sinh.bands_of (fin s m e))
sinh_turned s m e = turned_size ∙ at_turned s m e (fin false m e) ∙ ap neg (sym (at_size s m e))
  where
    turned_size : Sinh.bands_of (neg (fin s m e)) ≡ sinh_at (neg (fin s m e)) (fin false m e)
    turned_size = unfold float_with_sign neg in refl

pub sinh_odd : Odd sinh_of
sinh_odd nan = unfold sinh_of neg in refl
sinh_odd (inf s) = unfold sinh_of neg in refl
sinh_odd (fin s zero e) = unfold sinh_of neg in refl
sinh_odd (fin s (suc m) e) = let k = sinh_turned s (suc m) e in unfold sinh_of neg in k
