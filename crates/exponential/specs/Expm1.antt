-- exp(x) - 1: special values, then the method, each step rounded once.
use Rattle.std.specs.Prelude.{ℕ, zero, suc, Bool, true, false, cond, not, ◌&&◌, ◌||◌, List, [], ◌∷◌, ℤ, pos, negsuc, ◌-ℤ◌, from_bits, int_lt, is_nan, Float}
use Rattle.std.specs.Float.Ieee.{add, sub, mul, div, lt}
use Rattle.std.specs.Float.{is_sign_negative, Format, nan, inf, fin}
use Rattle.float.specs.Band.{below_bits}
use Rattle.float.specs.Constants.{one, two, three, six, half, minus_one, minus_two, minus_quarter, infinity}
use Rattle.float.specs.Polynomial.{horner}
use Rattle.scaling.specs.Scalbn.{scalbn_of}
use Rattle.exponential.specs.Ln2.{Ln2, equal_z, count_of, high_rest, low_rest}
use Rattle.exponential.specs.Ln2 as Ln2s

-- the constants of a format, by their bit patterns
pub record Expm1 : Type 0 where
  pub ln2 : Ln2
  -- below this size the result is x
  pub tiny : ℕ
  -- from this size on the result is -1 for a negative x
  pub far : ℕ
  -- above this value the result is +infinity
  pub overflow : ℕ
  -- the coefficients of the kernel
  pub q : List ℕ
  -- the count from which 2^-k is added to the error term and no longer taken from 1
  pub wide : ℤ

-- the high words 0x3c900000 and 0x4043687a
abbrev pub double : Expm1
double = record {
  ln2 = Ln2s.double;
  tiny = 0x3c90000000000000;
  far = 0x4043687a00000000;
  overflow = 0x40862e42fefa39ef;
  q = 0xBFA11111111110F4 ∷ 0x3F5A01A019FE5585 ∷ 0xBF14CE199EAADBB7 ∷ 0x3ED0CFCA86E65239 ∷ 0xBE8AFDB76E09C32D ∷ [];
  wide = pos 20;
}

-- the sizes are 2^-25 and 27 ln 2
abbrev pub single : Expm1
single = record {
  ln2 = Ln2s.single;
  tiny = 0x33000000;
  far = 0x4195b844;
  overflow = 0x42b17217;
  q = 0xbd088868 ∷ 0x3acf3010 ∷ [];
  wide = pos 23;
}

module _ (t : Expm1) where
  abbrev F : Format
  F = t.ln2.format

  infixl 6 ◌⊕◌ ◌⊖◌
  infixl 7 ◌⊗◌ ◌⊘◌
  abbrev ◌⊕◌ : Float → Float → Float
  x ⊕ y = add F x y

  abbrev ◌⊖◌ : Float → Float → Float
  x ⊖ y = sub F x y

  abbrev ◌⊗◌ : Float → Float → Float
  x ⊗ y = mul F x y

  abbrev ◌⊘◌ : Float → Float → Float
  x ⊘ y = div F x y

  -- ---- kernel: on the rest r, at most about ln 2 / 2 in size
  -- r²/2
  abbrev pub square_of : Float → Float
  square_of r = r ⊗ (half F ⊗ r)

  -- 1 + z Q(z), at z = r²/2
  abbrev pub kernel_of : Float → Float
  kernel_of z = one F ⊕ z ⊗ horner F t.q z

  -- the error term, from the kernel's value p and 3 - p r / 2
  abbrev pub error_from : Float → Float → Float → Float
  error_from r p s = square_of r ⊗ ((p ⊖ s) ⊘ (six F ⊖ r ⊗ s))

  abbrev pub error_of : Float → Float
  error_of r = error_from r (kernel_of (square_of r)) (three F ⊖ kernel_of (square_of r) ⊗ (half F ⊗ r))

  -- the error term with the correction c of the rest, less r²/2: exp(r + c) is near 1 + r - e
  abbrev pub corrected_of : Float → Float → Float
  corrected_of r c = r ⊗ (error_of r ⊖ c) ⊖ c ⊖ square_of r

  -- ---- reconstruction: 2^k (1 + r - e) - 1
  -- k = 0
  abbrev pub unscaled : Float → Float
  unscaled r = r ⊖ (r ⊗ error_of r ⊖ square_of r)

  -- k = -1
  abbrev pub halved : Float → Float → Float
  halved r e = half F ⊗ (r ⊖ e) ⊖ half F

  -- k = 1
  abbrev pub doubled : Float → Float → Float
  doubled r e = cond (lt r (minus_quarter F)) (minus_two F ⊗ (e ⊖ (r ⊕ half F))) (one F ⊕ two F ⊗ (r ⊖ e))

  -- k below 0 or above 56, where the last step may take 1 off
  abbrev pub outer : ℤ → Float → Float → Float
  outer k r e = scalbn_of F (r ⊖ e ⊕ one F) k ⊖ one F

  -- 2^-k
  abbrev pub unit : ℤ → Float
  unit k = scalbn_of F (one F) (pos 0 -ℤ k)

  -- k from 2 to 56: what is scaled
  abbrev pub summed : ℤ → Float → Float → Float
  summed k r e = cond (int_lt k t.wide) (r ⊖ e ⊕ (one F ⊖ unit k)) (r ⊖ (e ⊕ unit k) ⊕ one F)

  abbrev pub inner : ℤ → Float → Float → Float
  inner k r e = scalbn_of F (summed k r e) k

  abbrev pub scaled_of : ℤ → Float → Float → Float
  scaled_of k r e =
      cond (equal_z k (negsuc 0)) (halved r e)
      (cond (equal_z k (pos 1)) (doubled r e)
      (cond (int_lt k (pos 0) || int_lt (pos 56) k) (outer k r e) (inner k r e)))

  -- what the rest r = hi ⊖ lo lost as it was rounded
  abbrev pub lost_of : Float → Float → Float → Float
  lost_of hi lo r = hi ⊖ r ⊖ lo

  -- from the two parts of the rest
  abbrev pub rebuilt : ℤ → Float → Float → Float
  rebuilt k hi lo = scaled_of k (hi ⊖ lo) (corrected_of (hi ⊖ lo) (lost_of hi lo (hi ⊖ lo)))

  abbrev pub reduced_of : ℤ → Float → Float
  reduced_of k x = cond (equal_z k (pos 0)) (unscaled x) (rebuilt k (high_rest t.ln2 k x) (low_rest t.ln2 k))

  -- ---- bands of a finite x: far below zero, above the threshold of overflow, tiny, the rest
  abbrev pub sunk : Float → Bool
  sunk x = not (below_bits F x t.far) && is_sign_negative x

  abbrev pub over : Float → Bool
  over x = not (below_bits F x t.far) && lt (from_bits F t.overflow) x

  abbrev pub bands_of : Float → Float
  bands_of x =
      cond (sunk x) (minus_one F)
      (cond (over x) (infinity F)
      (cond (below_bits F x t.tiny) x
      (reduced_of (count_of t.ln2 x) x)))

  -- a NaN told from these by a test
  abbrev pub tests_of : Float → Float
  tests_of x = cond (is_nan x) x (bands_of x)

  -- C11 F.10.3.3: a NaN stays; -infinity gives -1; +infinity stays; a zero stays
  abbrev pub value_of : Float → Float
  value_of nan = nan
  value_of (inf true) = minus_one F
  value_of (inf false) = inf false
  value_of (fin s zero e) = fin s zero e
  value_of (fin s (suc m) e) = bands_of (fin s (suc m) e)

-- expm1 of an f64
unfoldable pub expm1_of : Float → Float
expm1_of x = value_of double x
