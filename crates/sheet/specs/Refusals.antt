-- What is told of each refusal of a sheet.
use Rattle.std.specs.Prelude.{ℕ, not, List, [], ◌∷◌, ℤ, Some, None, Ok, Option, Result}
use Rattle.std.specs.Result.{result_map_both}
use Rattle.refusals.specs.Refusals as Refusals
use Rattle.refusals.specs.Refusals.{Told}
use Rattle.conversion.specs.Refusals as Conversion
use Rattle.ledger.specs.Refusals as Ledger
use Rattle.ledger.specs.Rules.{refuse}
use Rattle.ledger.specs.Ledgers.{own}
use Rattle.sheet.specs.declared.refusal.Refusal.{Refusal}
use Rattle.sheet.specs.declared.refusal.Refusal.TheVariants.{Memory, NoSuchRow, Held, NotANumber, Free, WrongWay, Unconverted, StillPlain, NotFinite, SumInfinite, NothingTurned, NoLimit}

-- The conversion's refusal keeps its own number, with the row before its values.
abbrev pub told : Refusal → Told
told Memory = Ledger.memory
told (NoSuchRow i) = Ledger.no_such_row i
told (Held i) = Ledger.is_held i
told (NotANumber i) = Ledger.not_a_number i
told (Free i) = Ledger.is_free i
told (WrongWay i) = Ledger.wrong_way i
told (Unconverted i cause) = Ledger.rowed i (Conversion.told cause)
told (StillPlain i) = Ledger.still_plain i
told (NotFinite i) = Ledger.not_finite i
told (SumInfinite i) = Ledger.sum_is_infinite i
told NothingTurned = Ledger.nothing_turned
told NoLimit = Ledger.no_limit

abbrev pub answered : {A : Type 0} → Result A Refusal → Result A Told
answered r = Refusals.answered told r

-- whether a check let pass, whatever it gave
abbrev pub checked : {A : Type 0} → Result A Refusal → Result Unit Told
checked r = result_map_both (λ _. tt) told r

-- the row that a refusal concerns: the first of its values
abbrev pub first_of : List ℤ → Option ℤ
first_of [] = None
first_of (v ∷ values) = Some v

abbrev pub row_named : Told → Option ℤ
row_named t = first_of t.values

-- the lengths of the two slices are those of a sheet of n rows
abbrev pub own_memory : ℕ → ℕ → ℕ → Result Unit Told
own_memory n marks figures = refuse (not (own n marks figures)) Ledger.memory (Ok tt)
