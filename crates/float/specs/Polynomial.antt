-- Polynomials by Horner's rule, each step rounded once.
use Rattle.std.specs.Prelude.{ℕ, List, [], ◌∷◌, from_bits, Float}
use Rattle.std.specs.Float.{Format}
use Rattle.std.specs.Float.Ieee.{add, mul}

-- c₀ + z (c₁ + z (c₂ + ..)), the coefficients by their bit patterns, the last one as it stands
abbrev pub horner : Format → List ℕ → Float → Float
horner F [] z = from_bits F 0
horner F (c ∷ []) z = from_bits F c
horner F (c ∷ d ∷ cs) z = add F (from_bits F c) (mul F z (horner F (d ∷ cs) z))
