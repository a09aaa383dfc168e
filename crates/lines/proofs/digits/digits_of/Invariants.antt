use Rattle.std.proofs.Common.{◌≡◌, ◌++◌}
use Rattle.lines.specs.Digits.{written}
use Rattle.lines.specs.Held.{held}
use Rattle.lines.proofs.digits.digits_of.Given as goal

-- `place` digits are left to write
abbrev pub invariant-loop-place : goal.invariant-loop-place
invariant-loop-place l = held l.digits ++ written l.place l.n ≡ written l.places l.n
