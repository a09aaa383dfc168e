-- A float times a power of two.
use Rattle.std.specs.Prelude.{zero, suc, ◌*◌, ℤ, pos, Float}
use Rattle.std.specs.Float.{Format, nan, inf, fin}
use Rattle.std.specs.Float.Ieee.{up, down, round}

-- x times 2 ^ n, rounded once: a NaN, an infinity and a zero come back as they are,
-- and of any other value the exact product, a fraction of whole numbers, is handed to rounding.
unfoldable pub scalbn_of : Format → Float → ℤ → Float
scalbn_of f nan n = nan
scalbn_of f (inf s) n = inf s
scalbn_of f (fin s zero e) n = fin s zero (pos 0)
scalbn_of f (fin s (suc m) e) n = round f s (suc m * up e * up n) (down e * down n)
