-- exp(x) / 2 of an f64 x for which exp itself overflows, each step rounded once.
use Rattle.std.specs.Prelude.{from_bits, Float}
use Rattle.std.specs.Float.{binary64}
use Rattle.float.specs.Double.{◌⊖◌, ◌⊗◌}
use Rattle.exponential.specs.Exp.{exp_of}

-- 2043 ln 2
abbrev pub kln2 : Float
kln2 = from_bits binary64 0x40962066151add8b

-- 2^1021: its square is 2^2042, half of 2^2043
abbrev pub scale : Float
scale = from_bits binary64 0x7fc0000000000000

abbrev pub expo2_of : Float → Float
expo2_of x = exp_of (x ⊖ kln2) ⊗ scale ⊗ scale
