-- The conversion by a power of two.
use Rattle.std.specs.Prelude.{Bool, cond, ◌&&◌, ℤ, pos, neg_ℤ, Ok, Err, Result, int_le, Float}
use Rattle.std.specs.Float.{Format}
use Rattle.refusals.specs.Refusals.{Told}
use Rattle.scaling.specs.Scalbn.{scalbn_of}
use Rattle.conversion.specs.Refusals.{out_of_bounds}
use Rattle.conversion.specs.Conversions.{Rule}
use Rattle.conversion.specs.FloatRules.{everywhere}

-- on is times 2 ^ s, back times 2 ^ -s; the back range is all numbers
abbrev pub scaling : Format → ℤ → Rule Float
scaling f s = everywhere f (λ x. scalbn_of f x s) (λ x. scalbn_of f x (neg_ℤ s))

-- the exponents that a scale may have
abbrev pub allowed : ℤ → Bool
allowed s = int_le (neg_ℤ (pos 64)) s && int_le s (pos 64)

-- a scale of that exponent, or refused
abbrev pub made : ℤ → Result ℤ Told
made s = cond (allowed s) (Ok s) (Err (out_of_bounds s))
