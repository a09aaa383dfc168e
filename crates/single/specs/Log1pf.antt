-- log(1 + x) of an f32: the method of the f64 function, with the constants of binary32.
use Rattle.std.specs.Prelude.{Float}
use Rattle.logarithm.specs.Log1p.{single, value_of}

-- log1p of an f32
unfoldable pub log1pf_of : Float → Float
log1pf_of x = value_of single x
