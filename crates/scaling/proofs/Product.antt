-- The exact product with a power of two, handed to rounding: `scalbn_of` with no case for zero. Assumes nothing.
use Rattle.std.proofs.Common.{◌*◌, ℤ}
use lib.Ieee.{Float, Format, nan, inf, fin, up, down, round}

unfoldable pub product_of : Format → Float → ℤ → Float
product_of f nan n = nan
product_of f (inf s) n = inf s
product_of f (fin s m e) n = round f s (m * up e * up n) (down e * down n)
