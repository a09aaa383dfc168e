-- exp(x) - 1 of an f32: the method of the f64 function, with the constants of binary32.
use Rattle.std.specs.Prelude.{Float}
use Rattle.exponential.specs.Expm1.{single, value_of}

-- expm1 of an f32
unfoldable pub expm1f_of : Float → Float
expm1f_of x = value_of single x
