-- Scaling by any power of two takes every number to a number, and turns with the sign. Assumes nothing.
use Rattle.std.proofs.Common.{sym, subst}
use Rattle.std.specs.Prelude.{◌≡◌, Bool, true, not, T, ℤ, neg_ℤ, Float}
use Rattle.std.specs.Float.{Format}
use Rattle.scaling.specs.Scalbn.{scalbn_of}
use Rattle.scaling.proofs.Whole.{scaled_fits, scaled_nan, scaled_neg}
use Rattle.kinds.specs.Floats.{floats}
use Rattle.conversion.specs.Conversions.{Sound, AllNumbers, Mirrored}
use Rattle.conversion.proofs.Ranges.{Number, is_number, number_is, everywhere_sound, everywhere_all, everywhere_mirrored}
use Rattle.scale.specs.Scales.{scaling}

-- a number stays one at any exponent
module _ (f : Format) where
  scaled_number : (n : ℤ) (x : Float) → Number f x → Number f (scalbn_of f x n)
  scaled_number n x h = (scaled_fits f x n, subst (λ (b : Bool). T (not b)) (sym (scaled_nan f x n)) h.1)

  pub scaled_is_number : (n : ℤ) (x : Float) → (floats f).number x ≡ true → (floats f).number (scalbn_of f x n) ≡ true
  scaled_is_number n x h = is_number f (scalbn_of f x n) (scaled_number n x (number_is f x h))

module _ (f : Format) (s : ℤ) where
  pub scaling_sound : Sound (floats f) (scaling f s)
  scaling_sound = everywhere_sound f (λ x. scalbn_of f x s) (λ x. scalbn_of f x (neg_ℤ s)) (scaled_number f s) (scaled_number f (neg_ℤ s))

  pub scaling_all : AllNumbers (floats f) (scaling f s)
  scaling_all = everywhere_all f (λ x. scalbn_of f x s) (λ x. scalbn_of f x (neg_ℤ s))

  pub scaling_mirrored : Mirrored (floats f) (scaling f s)
  scaling_mirrored = everywhere_mirrored f (λ x. scalbn_of f x s) (λ x. scalbn_of f x (neg_ℤ s)) (λ x. scaled_neg f x s) (λ x. scaled_neg f x (neg_ℤ s))
