-- The logarithm of 2^k (1 + f), for 1 + f between √½ and √2; and how a value is cut into such a k and f. Each step is rounded once.
use Rattle.std.specs.Prelude.{ℕ, ◌+◌, ◌/◌, ◌%◌, List, [], ◌∷◌, ℤ, pos, ◌-ℤ◌, from_bits, Float}
use Rattle.std.specs.Float.{Format, binary32, binary64}
use Rattle.std.specs.Float.Ieee.{emax, hid, top, add, sub, mul, div, of_int}
use Rattle.float.specs.Constants.{two, half}
use Rattle.float.specs.Polynomial.{horner}

-- the constants of a format, by their bit patterns
pub record Logarithm : Type 0 where
  pub format : Format
  -- ln 2 in two parts: the products of the first with the exponents are exact
  pub ln2_hi : ℕ
  pub ln2_lo : ℕ
  -- the coefficients of the odd places, LG1, LG3 .., and of the even ones
  pub odd : List ℕ
  pub even : List ℕ
  -- near √½: where the significand's range begins
  pub bottom : ℕ
  -- how far that lies below 1, as patterns
  pub below : ℕ

-- the high word 0x3fe6a09e, and 0x3ff00000 less it
abbrev pub double : Logarithm
double = record {
  format = binary64;
  ln2_hi = 0x3fe62e42fee00000;
  ln2_lo = 0x3dea39ef35793c76;
  odd = 0x3FE5555555555593 ∷ 0x3FD2492494229359 ∷ 0x3FC7466496CB03DE ∷ 0x3FC2F112DF3E5244 ∷ [];
  even = 0x3FD999999997FA04 ∷ 0x3FCC71C51D8E78AF ∷ 0x3FC39A09D078C69F ∷ [];
  bottom = 0x3fe6a09e00000000;
  below = 0x00095f6200000000;
}

-- 0x3f3504f3 is near √½, and 0x3f800000 is 1
abbrev pub single : Logarithm
single = record {
  format = binary32;
  ln2_hi = 0x3f317180;
  ln2_lo = 0x3717f7d1;
  odd = 0x3f2aaaaa ∷ 0x3e91e9ee ∷ [];
  even = 0x3eccce13 ∷ 0x3e789e26 ∷ [];
  bottom = 0x3f3504f3;
  below = 0x004afb0d;
}

module _ (t : Logarithm) where
  abbrev F : Format
  F = t.format

  infixl 6 ◌⊕◌ ◌⊖◌
  infixl 7 ◌⊗◌ ◌⊘◌
  abbrev ◌⊕◌ : Float → Float → Float
  x ⊕ y = add F x y

  abbrev ◌⊖◌ : Float → Float → Float
  x ⊖ y = sub F x y

  abbrev ◌⊗◌ : Float → Float → Float
  x ⊗ y = mul F x y

  abbrev ◌⊘◌ : Float → Float → Float
  x ⊘ y = div F x y

  -- ---- cutting: x, of the pattern b, is 2^k times a significand from √½ up to √2
  -- the pattern, without the sign, moved so that its exponent steps at √½ and no longer at 1
  abbrev pub moved_of : ℕ → ℕ
  moved_of b = b % top F + t.below

  abbrev pub exponent_of : ℕ → ℤ
  exponent_of b = pos (moved_of b / hid F) -ℤ pos (emax F)

  abbrev pub significand_of : ℕ → Float
  significand_of b = from_bits F (moved_of b % hid F + t.bottom)

  -- ---- kernel, at f
  -- s = f / (2 + f)
  abbrev pub slope_of : Float → Float
  slope_of f = f ⊘ (two F ⊕ f)

  -- R(z), at z = s²: the odd places by z, the even ones by z²
  abbrev pub series_at : Float → Float → Float
  series_at z w = z ⊗ horner F t.odd w ⊕ w ⊗ horner F t.even w

  abbrev pub series_of : Float → Float
  series_of z = series_at z (z ⊗ z)

  -- f²/2
  abbrev pub square_of : Float → Float
  square_of f = half F ⊗ f ⊗ f

  -- ---- reconstruction: s (f²/2 + R) + low - f²/2 + f + high, where low and high are the parts of k ln 2
  abbrev pub join_of : Float → Float → Float → Float → Float
  join_of f s low high = s ⊗ (square_of f ⊕ series_of (s ⊗ s)) ⊕ low ⊖ square_of f ⊕ f ⊕ high

  abbrev pub high_part : ℤ → Float
  high_part k = of_int F k ⊗ from_bits F t.ln2_hi

  abbrev pub low_part : ℤ → Float
  low_part k = of_int F k ⊗ from_bits F t.ln2_lo
