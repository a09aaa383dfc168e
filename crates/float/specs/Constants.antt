-- Small numbers in each format.
use Rattle.std.specs.Prelude.{from_bits, Float}
use Rattle.std.specs.Float.{Format, binary32, binary64}

abbrev pub one : Format → Float
one binary32 = from_bits binary32 0x3f800000
one binary64 = from_bits binary64 0x3ff0000000000000

abbrev pub two : Format → Float
two binary32 = from_bits binary32 0x40000000
two binary64 = from_bits binary64 0x4000000000000000

abbrev pub three : Format → Float
three binary32 = from_bits binary32 0x40400000
three binary64 = from_bits binary64 0x4008000000000000

abbrev pub six : Format → Float
six binary32 = from_bits binary32 0x40c00000
six binary64 = from_bits binary64 0x4018000000000000

abbrev pub half : Format → Float
half binary32 = from_bits binary32 0x3f000000
half binary64 = from_bits binary64 0x3fe0000000000000

abbrev pub minus_one : Format → Float
minus_one binary32 = from_bits binary32 0xbf800000
minus_one binary64 = from_bits binary64 0xbff0000000000000

abbrev pub minus_two : Format → Float
minus_two binary32 = from_bits binary32 0xc0000000
minus_two binary64 = from_bits binary64 0xc000000000000000

abbrev pub minus_half : Format → Float
minus_half binary32 = from_bits binary32 0xbf000000
minus_half binary64 = from_bits binary64 0xbfe0000000000000

abbrev pub minus_quarter : Format → Float
minus_quarter binary32 = from_bits binary32 0xbe800000
minus_quarter binary64 = from_bits binary64 0xbfd0000000000000

abbrev pub infinity : Format → Float
infinity binary32 = from_bits binary32 0x7f800000
infinity binary64 = from_bits binary64 0x7ff0000000000000

abbrev pub minus_infinity : Format → Float
minus_infinity binary32 = from_bits binary32 0xff800000
minus_infinity binary64 = from_bits binary64 0xfff0000000000000

abbrev pub plus_zero : Format → Float
plus_zero binary32 = from_bits binary32 0
plus_zero binary64 = from_bits binary64 0

abbrev pub not_a_number : Format → Float
not_a_number binary32 = from_bits binary32 0x7fc00000
not_a_number binary64 = from_bits binary64 0x7ff8000000000000
