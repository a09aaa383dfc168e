-- What a line asks, and the reply to it. Lines are without their line feed.
use Rattle.std.specs.Prelude.{ℕ, ◌+◌, Bool, cond, ◌&&◌, List, [], ◌∷◌, ◌++◌, length, drop, Ok, Err, codes, Result, ◌==◌, nat_le}
use Rattle.std.specs.Str.{bytes_eq}
use Rattle.lines.specs.declared.function.Function.{Function}
use Rattle.lines.specs.declared.refusal.Refusal.{Refusal}
use Rattle.lines.specs.declared.refusal.Refusal.TheVariants.{Malformed}
use Rattle.lines.specs.Digits.{all_digits, spelled, written}
use Rattle.lines.specs.Functions.{functions, name_of, places_of, result_at}
use Rattle.lines.specs.Refusals.{refusal_text}

-- what a line asks: a function, and the bits of the number at which its result is wanted
pub record Asked : Type 0 where
  pub function : Function
  pub bits : ℕ

-- a line that asks for f by these digits: its name, one space, the digits
abbrev pub line_for : Function → List ℕ → List ℕ
line_for f digits = name_of f ++ (codes " " ++ digits)

-- whether these are as many digits as f takes
abbrev pub takes : Function → List ℕ → Bool
takes f digits = length digits == places_of f && all_digits digits

-- the question for f's result at the number that the digits spell
abbrev pub question_for : Function → List ℕ → Result Asked Refusal
question_for f digits = cond (takes f digits) (Ok (record { function = f; bits = spelled digits })) (Err Malformed)

-- what follows f's name and one more byte
abbrev pub behind_name : Function → List ℕ → List ℕ
behind_name f line = drop (length (name_of f) + 1) line

-- whether a line is f's name, a space, and any bytes behind it
abbrev pub is_for : Function → List ℕ → Bool
is_for f line = bytes_eq line (line_for f (behind_name f line))

-- what a line asks of the first of these functions whose name it has
abbrev pub question_among : List Function → List ℕ → Result Asked Refusal
question_among [] line = Err Malformed
question_among (f ∷ fs) line = cond (is_for f line) (question_for f (behind_name f line)) (question_among fs line)

-- what a line asks; one of more than 32 bytes is refused
unfoldable pub question_in : List ℕ → Result Asked Refusal
question_in line = cond (nat_le (length line) 32) (question_among functions line) (Err Malformed)

-- the digits of the result, or the refusal
abbrev pub answer_to : Result Asked Refusal → List ℕ
answer_to (Ok q) = written (places_of q.function) (result_at q.function q.bits)
answer_to (Err refusal) = refusal_text refusal

-- what is printed for a line
unfoldable pub reply_to : List ℕ → List ℕ
reply_to line = answer_to (question_in line) ++ codes "\n"
