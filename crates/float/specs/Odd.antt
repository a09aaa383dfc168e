-- Functions that turn the sign with their argument.
use Rattle.std.specs.Prelude.{◌≡◌, Float}
use Rattle.std.specs.Float.Ieee.{neg}

-- odd: of the sign-turned argument the result is the sign-turned one, bit for bit
abbrev pub Odd : (Float → Float) → Type 0
Odd g = (x : Float) → g (neg x) ≡ neg (g x)
