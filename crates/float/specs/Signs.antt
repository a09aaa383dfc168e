-- Values that take their sign from an argument.
use Rattle.std.specs.Prelude.{cond, Float}
use Rattle.std.specs.Float.Ieee.{neg}
use Rattle.std.specs.Float.{is_sign_negative, Format}
use Rattle.float.specs.Constants.{half, minus_half}

-- a half with x's sign
abbrev pub half_like : Format → Float → Float
half_like f x = cond (is_sign_negative x) (minus_half f) (half f)

-- t, sign-turned for a negative x
abbrev pub signed_like : Float → Float → Float
signed_like x t = cond (is_sign_negative x) (neg t) t
