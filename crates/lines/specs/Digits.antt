-- Hexadecimal digits 0-9 and a-f, as bytes, and the numbers that they spell.
use Rattle.std.specs.Prelude.{ℕ, zero, suc, ◌+◌, ◌-◌, ◌*◌, ◌/◌, ◌%◌, ◌^◌, Bool, true, cond, ◌&&◌, ◌||◌, List, [], ◌∷◌, length, nat_le}

-- whether a byte is 0-9 (48 to 57) or a-f (97 to 102)
abbrev pub is_digit : ℕ → Bool
is_digit b = (nat_le 48 b && nat_le b 57) || (nat_le 97 b && nat_le b 102)

-- the value of a digit: 0 to 9, and 10 to 15 for a to f
abbrev pub digit_of : ℕ → ℕ
digit_of b = cond (nat_le b 57) (b - 48) (b - 97 + 10)

abbrev pub all_digits : List ℕ → Bool
all_digits [] = true
all_digits (b ∷ bs) = is_digit b && all_digits bs

-- the number that digits spell, the first the highest
abbrev pub spelled : List ℕ → ℕ
spelled [] = 0
spelled (b ∷ bs) = digit_of b * 16 ^ length bs + spelled bs

-- the digit of a value below 16, in lower case
abbrev pub byte_of : ℕ → ℕ
byte_of d = cond (nat_le d 9) (d + 48) (d - 10 + 97)

-- the lowest digits of n, as many as are asked for, the highest first
abbrev pub written : ℕ → ℕ → List ℕ
written zero n = []
written (suc places) n = byte_of (n / 16 ^ places % 16) ∷ written places n
