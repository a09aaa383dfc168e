-- Conversions of floats by their ends.
use Rattle.std.specs.Prelude.{from_bits, Float}
use Rattle.std.specs.Float.{Format, binary32, binary64}
use Rattle.conversion.specs.Conversions.{Rule}

-- the infinities of a format, by their bits
abbrev pub minus_infinity : Format → Float
minus_infinity binary32 = from_bits binary32 0xff800000
minus_infinity binary64 = from_bits binary64 0xfff0000000000000

abbrev pub infinity : Format → Float
infinity binary32 = from_bits binary32 0x7f800000
infinity binary64 = from_bits binary64 0x7ff0000000000000

-- the back range is the numbers between these two
abbrev pub between : (Float → Float) → (Float → Float) → Float → Float → Rule Float
between on back low high = record { on = on; back = back; low = low; high = high }

-- the back range is all numbers from this one
abbrev pub upward : Format → (Float → Float) → (Float → Float) → Float → Rule Float
upward f on back low = between on back low (infinity f)

-- the back range is all numbers
abbrev pub everywhere : Format → (Float → Float) → (Float → Float) → Rule Float
everywhere f on back = between on back (minus_infinity f) (infinity f)
