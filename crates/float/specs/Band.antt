-- Tests on the size of a float.
use Rattle.std.specs.Prelude.{ℕ, ◌*◌, ◌/◌, ◌%◌, ◌^◌, Bool, false, ◌&&◌, from_bits, nat_lt, to_bits, Float}
use Rattle.std.specs.Float.Ieee.{lt}
use Rattle.std.specs.Float.{float_with_sign, Format, binary32, binary64}

-- |x| lies below the value whose bit pattern is b. A NaN lies below nothing.
abbrev pub below_bits : Format → Float → ℕ → Bool
below_bits F x b = lt (float_with_sign false x) (from_bits F b)

-- the high word of an f64 with its sign bit cleared
abbrev pub high_of : Float → ℕ
high_of x = to_bits binary64 x % 2 ^ 63 / 2 ^ 32

-- |x| lies below the f64 with the high word h and the low word 0, for an h that a finite value has
abbrev pub below_high : Float → ℕ → Bool
below_high x h = nat_lt h 0x7ff00000 && below_bits binary64 x (h * 2 ^ 32)

-- the pattern of an f32 with its sign bit cleared
abbrev pub size_of : Float → ℕ
size_of x = to_bits binary32 x % 2 ^ 31

-- |x| lies below the f32 with the pattern b, for a b that a finite value has
abbrev pub below_word : Float → ℕ → Bool
below_word x b = nat_lt b 0x7f800000 && below_bits binary32 x b

-- ---- one text for both formats: by the size word, an f64's high word and an f32's whole pattern, the sign bit cleared
abbrev pub word_of : Format → Float → ℕ
word_of binary32 x = size_of x
word_of binary64 x = high_of x

-- the size word of an infinity: every finite value's lies below
abbrev pub infinite_word : Format → ℕ
infinite_word binary32 = 0x7f800000
infinite_word binary64 = 0x7ff00000

-- the pattern of the first value with a size word
abbrev pub pattern_of : Format → ℕ → ℕ
pattern_of binary32 w = w
pattern_of binary64 w = w * 2 ^ 32

-- |x| lies below the first value with the size word w, for a w that a finite value has
abbrev pub below_edge : Format → Float → ℕ → Bool
below_edge binary32 x w = below_word x w
below_edge binary64 x w = below_high x w
