-- The refusals of conversions.
use Rattle.std.specs.Prelude.{[], ◌∷◌, ℤ, Result}
use Rattle.std.specs.Result.{result_map_both}
use Rattle.refusals.specs.Refusals as Refusals
use Rattle.refusals.specs.Refusals.{Told}
use Rattle.conversion.specs.declared.refusal.Refusal.{Refusal}
use Rattle.conversion.specs.declared.refusal.Refusal.TheVariants.{NotANumber, OutsideBackRange, ScaleOutOfBounds}

-- not a number of its kind
abbrev pub not_a_number : Told
not_a_number = record { number = 4; values = [] }

-- outside the back range
abbrev pub outside : Told
outside = record { number = 7; values = [] }

-- no scale has this exponent
abbrev pub out_of_bounds : ℤ → Told
out_of_bounds exponent = record { number = 13; values = exponent ∷ [] }

-- what is told of each refusal
abbrev pub told : Refusal → Told
told NotANumber = not_a_number
told OutsideBackRange = outside
told (ScaleOutOfBounds exponent) = out_of_bounds exponent

abbrev pub answered : {A : Type 0} → Result A Refusal → Result A Told
answered r = Refusals.answered told r

-- the same answer, where whatever was refused is refused as this
abbrev pub refused_as : {A : Type 0} → Told → Result A Refusal → Result A Told
refused_as t r = result_map_both (λ a. a) (λ _. t) r

-- refused as an on does, or as a back does
abbrev pub on_refused : {A : Type 0} → Result A Refusal → Result A Told
on_refused r = refused_as not_a_number r

abbrev pub back_refused : {A : Type 0} → Result A Refusal → Result A Told
back_refused r = refused_as outside r
