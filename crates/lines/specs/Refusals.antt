-- Why a line is refused, and what is printed then.
use Rattle.std.specs.Prelude.{ℕ, ◌+◌, ◌/◌, ◌%◌, List, [], ◌∷◌, ◌++◌, codes}
use Rattle.refusals.specs.Refusals.{Told}
use Rattle.lines.specs.declared.refusal.Refusal.{Refusal}
use Rattle.lines.specs.declared.refusal.Refusal.TheVariants.{Malformed}

-- what is told of each refusal
abbrev pub told : Refusal → Told
told Malformed = record { number = 14; values = [] }

-- a number below 100 in two decimal digits
abbrev pub two_decimals : ℕ → List ℕ
two_decimals n = (n / 10 + 48) ∷ (n % 10 + 48) ∷ []

-- a question mark, a space and the refusal's number
abbrev pub refusal_text : Refusal → List ℕ
refusal_text refusal = codes "? " ++ two_decimals (told refusal).number
