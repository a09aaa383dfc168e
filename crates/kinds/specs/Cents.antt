-- Whole cents in an i64 as a kind.
use Rattle.std.specs.Prelude.{ℕ, ◌^◌, Bool, false, cond, ◌&&◌, ℤ, pos, ◌+ℤ◌, neg_ℤ, int_div, int_le, int_lt}
use Rattle.std.specs.Int.{saturate_to_bits}
use Rattle.kinds.specs.Kinds.{Meaning}

-- the greatest number of cents
abbrev pub limit : ℕ
limit = 10 ^ 15

-- from -n to n
abbrev pub within : ℕ → ℤ → Bool
within n z = int_le (neg_ℤ (pos n)) z && int_le z (pos n)

-- the least i64, which has no sign turn in an i64
abbrev pub least : ℤ
least = neg_ℤ (pos (2 ^ 63))

-- the sign turned; the least i64 stays
abbrev pub turn : ℤ → ℤ
turn z = cond (int_le z least && int_le least z) z (neg_ℤ z)

-- Numbers lie within 10^15. A sum that would leave the i64 stops at its end, and a quotient has its
-- fraction dropped. Nothing is infinite.
abbrev pub cents : Meaning ℤ
cents = record {
  number = within limit;
  infinite = λ z. false;
  nought = pos 0;
  turned = turn;
  at_most = int_le;
  greater = λ x y. int_lt y x;
  plus = λ x y. saturate_to_bits 63 (x +ℤ y);
  over = λ x count. int_div x (pos count);
}
