-- A scaled value has the sign of x and is a NaN only where x is one. Assumes nothing.
use Rattle.std.proofs.Common.{◌≡◌, ℕ, zero, suc, ◌+◌, ◌*◌, ◌^◌, Bool, true, false, cond, ltb, ℤ, refl, ap, ◌∙◌}
use lib.Ieee.{Float, Format, nan, inf, fin, prec, emax, low, up, down, odd, units, round, neg, is_nan}
use lib.Ieee.Fits.{round_is}
use lib.Ieee.Order.{kept, drop}
use Rattle.numeric.proofs.Rounding.{round-neg}
use Rattle.scaling.proofs.Product.{product_of}

odd_number : (d : ℕ) (s : Bool) (q k l : ℕ) → is_nan (odd d s q k l) ≡ false
unfolding odd is_nan
odd_number d s zero k l = refl
odd_number d s (suc q) k l = refl

units_number : (f : Format) (s : Bool) (q k : ℕ) → is_nan (units f s q k) ≡ false
unfolding units
units_number f s q k = go (ltb (q * 2 ^ k) (2 ^ (low f + suc (emax f))))
  where
    go : (b : Bool) → is_nan (cond b (odd (suc (prec f)) s q k (low f)) (inf s)) ≡ false
    go true = odd_number (suc (prec f)) s q k (low f)
    go false = unfold is_nan in refl

pub round_number : (f : Format) (s : Bool) (a c : ℕ) → is_nan (round f s a c) ≡ false
round_number f s a c = ap is_nan (round_is f s a c) ∙ units_number f s (kept (prec f) (a * 2 ^ low f) c) (drop (prec f) (a * 2 ^ low f) c)

pub product_nan : (f : Format) (x : Float) (n : ℤ) → is_nan (product_of f x n) ≡ is_nan x
unfolding product_of is_nan
product_nan f nan n = refl
product_nan f (inf s) n = refl
product_nan f (fin s m e) n = round_number f s (m * up e * up n) (down e * down n)

pub product_neg : (f : Format) (x : Float) (n : ℤ) → product_of f (neg x) n ≡ neg (product_of f x n)
unfolding product_of neg
product_neg f nan n = refl
product_neg f (inf s) n = refl
product_neg f (fin s m e) n = round-neg f s (m * up e * up n) (down e * down n)
