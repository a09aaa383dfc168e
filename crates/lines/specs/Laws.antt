-- Which lines are well formed, and the law of a reply.
use Rattle.std.specs.Prelude.{◌≡◌, ℕ, ◌^◌, ◌<◌, ◌≤◌, true, List, ◌++◌, length, Ok, codes}
use Rattle.lines.specs.declared.function.Function.{Function}
use Rattle.lines.specs.Digits.{all_digits, spelled}
use Rattle.lines.specs.Functions.{places_of, result_at}
use Rattle.lines.specs.Replies.{Asked, line_for, question_in}

-- a line is f's name, one space and as many digits as f takes, and has at most 32 bytes
pub record WellFormed (f : Function) (digits line : List ℕ) : Type 0 where
  pub parts : line ≡ line_for f digits
  pub count : length digits ≡ places_of f
  pub hexadecimal : all_digits digits ≡ true
  pub short : length line ≤ 32

-- digits that, read back, are the bits of f's result at the number that the line's digits spell
pub record ResultOf (f : Function) (digits result : List ℕ) : Type 0 where
  pub count : length result ≡ places_of f
  pub hexadecimal : all_digits result ≡ true
  pub value : spelled result ≡ result_at f (spelled digits)

-- every well-formed line is answered, and every other line is refused
pub record Answers (line reply : List ℕ) : Type 0 where
  pub answered : (f : Function) (digits : List ℕ) → WellFormed f digits line
      → (result : List ℕ) × (reply ≡ result ++ codes "\n") × ResultOf f digits result
  pub refused : ((f : Function) (digits : List ℕ) → WellFormed f digits line → ⊥) → reply ≡ codes "? 14\n"

-- a question's result is written in as many digits as its function gives, and none is lost
abbrev pub Fitting : List ℕ → Type 0
Fitting line = (q : Asked) → question_in line ≡ Ok q → result_at q.function q.bits < 16 ^ places_of q.function
