-- The refusals of a sheet's calls: the number of each, and the row that it names.
use Rattle.std.specs.Prelude.{ℕ, [], ◌∷◌, pos, Ok, Err, Result}
use Rattle.refusals.specs.Refusals.{Told}
use Rattle.conversion.specs.Refusals as Conversion

-- a refusal that names a row, and what a conversion refused, with the row added
abbrev pub of_row : ℕ → ℕ → Told
of_row number row = record { number = number; values = pos row ∷ [] }

abbrev pub rowed : ℕ → Told → Told
rowed row t = record { number = t.number; values = pos row ∷ t.values }

abbrev pub at_row : {A : Type 0} → ℕ → Result A Told → Result A Told
at_row row (Ok a) = Ok a
at_row row (Err t) = Err (rowed row t)

-- 1: the lengths of the two slices are not a sheet's, or not this sheet's
abbrev pub memory : Told
memory = record { number = 1; values = [] }

-- 2: the sheet has no such row
abbrev pub no_such_row : ℕ → Told
no_such_row = of_row 2

-- 3: the row is held
abbrev pub is_held : ℕ → Told
is_held = of_row 3

-- 4: the figure is no number of its kind
abbrev pub not_a_number : ℕ → Told
not_a_number row = rowed row Conversion.not_a_number

-- 5: the row is free
abbrev pub is_free : ℕ → Told
is_free = of_row 5

-- 6: on of a turned row, or back of a plain one
abbrev pub wrong_way : ℕ → Told
wrong_way = of_row 6

-- 8: a row is plain as the sheet is to be closed
abbrev pub still_plain : ℕ → Told
still_plain = of_row 8

-- 9: the figure of a turned row is infinite, or no number
abbrev pub not_finite : ℕ → Told
not_finite = of_row 9

-- 10: the running sum becomes infinite at this row
abbrev pub sum_is_infinite : ℕ → Told
sum_is_infinite = of_row 10

-- 11: a mean of no turned rows
abbrev pub nothing_turned : Told
nothing_turned = record { number = 11; values = [] }

-- 12: the limit is no number
abbrev pub no_limit : Told
no_limit = record { number = 12; values = [] }
