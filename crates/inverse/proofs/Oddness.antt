-- asinh and atanh are odd. Assumes nothing.
use Rattle.std.proofs.Common.{◌≡◌, ℕ, zero, suc, Bool, ℤ, refl}
use lib.Ieee.{nan, inf, fin, neg}
use Rattle.numeric.proofs.Signs.{by_size_odd}
use Rattle.float.specs.Odd.{Odd}
use Rattle.inverse.specs.Asinh as Asinh
use Rattle.inverse.specs.Asinh.{asinh_of}
use Rattle.inverse.specs.Atanh as Atanh
use Rattle.inverse.specs.Atanh.{atanh_of}

asinh_turned : (s : Bool) (m : ℕ) (e : ℤ) → Asinh.bands_of (neg (fin s m e)) ≡ neg (Asinh.bands_of (fin s m e))
asinh_turned = by_size_odd Asinh.size_of

pub asinh_odd : Odd asinh_of
asinh_odd nan = unfold asinh_of neg in refl
asinh_odd (inf s) = unfold asinh_of neg in refl
asinh_odd (fin s zero e) = unfold asinh_of neg in refl
asinh_odd (fin s (suc m) e) = let k = asinh_turned s (suc m) e in unfold asinh_of neg in k

atanh_turned : (s : Bool) (m : ℕ) (e : ℤ) → Atanh.bands_of (neg (fin s m e)) ≡ neg (Atanh.bands_of (fin s m e))
atanh_turned = by_size_odd Atanh.size_of

pub atanh_odd : Odd atanh_of
atanh_odd nan = unfold atanh_of neg in refl
atanh_odd (inf s) = unfold atanh_of neg in refl
atanh_odd (fin s zero e) = unfold atanh_of neg in refl
atanh_odd (fin s (suc m) e) = let k = atanh_turned s (suc m) e in unfold atanh_of neg in k
