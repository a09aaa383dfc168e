-- What a sum can be divided by.
use Rattle.std.specs.Prelude.{ℕ, cond, ◌&&◌, Some, None, Option, nat_le}

-- a number from 1 to 4,096 is a count, and no other
abbrev pub counted : ℕ → Option ℕ
counted n = cond (nat_le 1 n && nat_le n 4096) (Some n) None
