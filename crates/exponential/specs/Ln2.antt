-- Reduction by multiples of ln 2: x is a count k of ln 2 and a rest between -ln 2 / 2 and ln 2 / 2.
use Rattle.std.specs.Prelude.{ℕ, Bool, false, cond, ◌&&◌, T, ℤ, pos, negsuc, from_bits, int_le, Float}
use Rattle.std.specs.Float.Ieee.{add, sub, mul, le, of_int, to_signed}
use Rattle.std.specs.Float.{is_sign_negative, float_with_sign, Format, binary32, binary64}
use Rattle.float.specs.Band.{below_bits}
use Rattle.float.specs.Constants.{half, minus_half}

-- the constants of a format, by their bit patterns
pub record Ln2 : Type 0 where
  pub format : Format
  -- 1 / ln 2
  pub inverse : ℕ
  -- ln 2 in two parts: the products of the first with the counts are exact
  pub high : ℕ
  pub low : ℕ
  -- the sizes, near ln 2 / 2 and 3 ln 2 / 2, from which the count is no longer 0, and no longer 1 or -1
  pub once : ℕ
  pub more : ℕ
  -- the largest size that is reduced
  pub widest : ℕ

-- the high words 0x3fd62e42 (the last with count 0) and 0x3ff0a2b2; the widest is exp's last argument above underflow, 745.13..
abbrev pub double : Ln2
double = record {
  format = binary64;
  inverse = 0x3ff71547652b82fe;
  high = 0x3fe62e42fee00000;
  low = 0x3dea39ef35793c76;
  once = 0x3fd62e4300000000;
  more = 0x3ff0a2b200000000;
  widest = 0x40874910d52d3051;
}

-- 0x3eb17218 is the last size with count 0; the widest is the last argument below overflow, 88.72..
abbrev pub single : Ln2
single = record {
  format = binary32;
  inverse = 0x3fb8aa3b;
  high = 0x3f317180;
  low = 0x3717f7d1;
  once = 0x3eb17219;
  more = 0x3f851592;
  widest = 0x42b17217;
}

abbrev pub equal_z : ℤ → ℤ → Bool
equal_z a b = int_le a b && int_le b a

module _ (c : Ln2) where
  -- a half with x's sign
  abbrev pub half_like : Float → Float
  half_like x = cond (is_sign_negative x) (minus_half c.format) (half c.format)

  -- x / ln 2 and a half more, away from zero; the fraction is dropped
  abbrev pub whole_of : Float → ℤ
  whole_of x = to_signed 63 (add c.format (mul c.format (from_bits c.format c.inverse) x) (half_like x))

  -- the count k
  abbrev pub count_of : Float → ℤ
  count_of x =
      cond (below_bits c.format x c.once) (pos 0)
      (cond (below_bits c.format x c.more) (cond (is_sign_negative x) (negsuc 0) (pos 1)) (whole_of x))

  -- what is left of x, in two parts: the rest is the first less the second
  abbrev pub high_rest : ℤ → Float → Float
  high_rest k x = sub c.format x (mul c.format (of_int c.format k) (from_bits c.format c.high))

  abbrev pub low_rest : ℤ → Float
  low_rest k = mul c.format (of_int c.format k) (from_bits c.format c.low)

  abbrev pub widest_of : Float
  widest_of = from_bits c.format c.widest

  abbrev pub Reducible : Float → Type 0
  Reducible x = T (le (float_with_sign false x) widest_of)
