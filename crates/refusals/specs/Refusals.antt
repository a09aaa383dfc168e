-- What is told of a refusal.
use Rattle.std.specs.Prelude.{ℕ, List, ℤ, Result}
use Rattle.std.specs.Result.{result_map_both}

-- the number by which a refusal is known, and the values that belong to it
pub record Told : Type 0 where
  pub number : ℕ
  pub values : List ℤ

-- an answer in which a refusal stands as what is told of it
abbrev pub answered : {A E : Type 0} → (E → Told) → Result A E → Result A Told
answered told r = result_map_both (λ a. a) told r
