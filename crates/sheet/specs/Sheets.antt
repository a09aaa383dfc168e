-- What each call on a sheet answers, and what it leaves in the two slices, whatever they hold.
use Rattle.std.specs.Prelude.{ℕ, Bool, cond, not, ◌&&◌, List, [], ◌∷◌, map, length, replicate, Ok, Err, Result, ◌==◌, nat_le, slice_index, slice_index_or, slice_set}
use Rattle.std.specs.Result.{result_map_both}
use Rattle.refusals.specs.Refusals.{Told}
use Rattle.kinds.specs.Kinds.{Meaning}
use Rattle.conversion.specs.Conversions.{Rule}
use Rattle.ledger.specs.declared.mark.Mark.{Mark}
use Rattle.ledger.specs.declared.mark.Mark.TheVariants.{Free, Plain, Turned}
use Rattle.ledger.specs.Marks.{mark_of, byte_of, held, is_plain, is_turned}
use Rattle.ledger.specs.Refusals.{memory, no_such_row, is_free, wrong_way}
use Rattle.ledger.specs.Rules.{Row, refuse, and_then, enter_rule, clear_rule, read_rule, on_rule, back_rule, close_rule, on_all_rule, total_rule, mean_rule, exceeds_rule}
use Rattle.kinds.specs.declared.count.Count.{Count}
use Rattle.sheet.specs.declared.heads.OpenSheet.{OpenSheet}
use Rattle.sheet.specs.declared.heads.ClosedSheet.{ClosedSheet}
use Rattle.sheet.specs.declared.refusal.Refusal.{Refusal}
use Rattle.sheet.specs.Refusals.{told, answered, own_memory}

-- The two slices of a sheet: a mark byte and a figure for each row.
pub record Slices (K : Type 0) : Type 0 where
  pub marks : List ℕ
  pub figures : List K

-- What a call answers, and what the slices hold after it.
pub record Outcome (A K : Type 0) : Type 0 where
  pub answer : Result A Told
  pub slices : Slices K

abbrev pub left : {A K : Type 0} → Result A Refusal → List ℕ → List K → Outcome A K
left r ms xs = record { answer = answered r; slices = record { marks = ms; figures = xs } }

-- The rows of two slices, as they are read, and one of them.
abbrev pub rows_of : {K : Type 0} → List ℕ → List K → List (Row K)
rows_of [] xs = []
rows_of (m ∷ ms) [] = []
rows_of (m ∷ ms) (x ∷ xs) = record { mark = mark_of m; figure = x } ∷ rows_of ms xs

module _ {K : Type 0} (k : Meaning K) (ms : List ℕ) (xs : List K) where
  abbrev pub row_at : ℕ → Row K
  row_at i = record { mark = mark_of (slice_index ms i); figure = slice_index_or xs i k.nought }

-- whether two marks are one
abbrev pub same_mark : Mark → Mark → Bool
same_mark Free m = not (held m)
same_mark Plain m = is_plain m
same_mark Turned m = is_turned m

-- the figure of the row i of n, if it has a mark
abbrev pub marked_rule : {K : Type 0} → ℕ → ℕ → Row K → Mark → Result K Told
marked_rule n i r wanted =
    refuse (nat_le n i) (no_such_row i) (refuse (not (held r.mark)) (is_free i) (refuse (not (same_mark r.mark wanted)) (wrong_way i) (Ok r.figure)))

module _ {K : Type 0} (ms : List ℕ) (xs : List K) where
  -- the row i gets this mark and the figure; or, refused, all stays
  abbrev pub put : ℕ → Mark → Result K Told → Outcome Unit K
  put i m (Ok x) = record { answer = Ok tt; slices = record { marks = slice_set ms i (byte_of m); figures = slice_set xs i x } }
  put i m (Err t) = record { answer = Err t; slices = record { marks = ms; figures = xs } }

  -- what follows the check that these are the slices of a sheet of n rows
  abbrev pub of_sheet : {A : Type 0} → ℕ → Result A Told → Result A Told
  of_sheet n next = and_then (own_memory n (length ms) (length xs)) (λ _. next)

-- on to every plain row, in its two slices
abbrev pub mark_on : ℕ → ℕ
mark_on m = cond (is_plain (mark_of m)) (byte_of Turned) m

abbrev pub figures_on : {K : Type 0} → Rule K → List ℕ → List K → List K
figures_on c [] xs = xs
figures_on c (m ∷ ms) [] = []
figures_on c (m ∷ ms) (x ∷ xs) = cond (is_plain (mark_of m)) (c.on x) x ∷ figures_on c ms xs

abbrev pub put_all : {K : Type 0} → Rule K → List ℕ → List K → Result Unit Told → Outcome Unit K
put_all c ms xs (Ok u) = record { answer = Ok tt; slices = record { marks = map mark_on ms; figures = figures_on c ms xs } }
put_all c ms xs (Err t) = record { answer = Err t; slices = record { marks = ms; figures = xs } }

-- whether two lengths are those of a new sheet
abbrev pub openable : ℕ → ℕ → Result ℕ Told
openable marks figures = refuse (not (figures == marks && (nat_le 1 marks && nat_le marks 4096))) memory (Ok marks)

-- all rows free with figure zero
abbrev pub fresh : {K : Type 0} → Meaning K → List ℕ → List K → Result ℕ Told → Outcome ℕ K
fresh k ms xs (Ok n) = record { answer = Ok n; slices = record { marks = replicate n (byte_of Free); figures = replicate n k.nought } }
fresh k ms xs (Err t) = record { answer = Err t; slices = record { marks = ms; figures = xs } }

-- The calls, on a sheet of n rows. A head is known by its number of rows.
module _ {K : Type 0} (k : Meaning K) (ms : List ℕ) (xs : List K) where
  abbrev pub opened : Outcome ℕ K
  opened = fresh k ms xs (openable (length ms) (length xs))

  module _ (n : ℕ) where
    abbrev pub entered : ℕ → K → Outcome Unit K
    entered i x = put ms xs i Plain (of_sheet ms xs n (enter_rule k n i (row_at k ms xs i) x))

    abbrev pub cleared : ℕ → Outcome Unit K
    cleared i = put ms xs i Free (of_sheet ms xs n (clear_rule k n i (row_at k ms xs i)))

    abbrev pub row_read : ℕ → Result (Row K) Told
    row_read i = of_sheet ms xs n (read_rule k n i (row_at k ms xs i))

    module _ (c : Rule K) where
      abbrev pub turned_on : ℕ → Outcome Unit K
      turned_on i = put ms xs i Turned (of_sheet ms xs n (on_rule k n i (row_at k ms xs i) c))

      abbrev pub turned_back : ℕ → Outcome Unit K
      turned_back i = put ms xs i Plain (of_sheet ms xs n (back_rule k n i (row_at k ms xs i) c))

      abbrev pub all_turned_on : Outcome Unit K
      all_turned_on = put_all c ms xs (of_sheet ms xs n (on_all_rule k c (rows_of ms xs)))

    -- the head that is given, or given back with the refusal
    abbrev pub head_of : Result Unit Told → Result ℕ (ℕ × Told)
    head_of r = result_map_both (λ _. n) (λ t. (n, t)) r

    abbrev pub closing : Result ℕ (ℕ × Told)
    closing = head_of (of_sheet ms xs n (close_rule (rows_of ms xs)))

    abbrev pub reopening : Result ℕ (ℕ × Told)
    reopening = head_of (of_sheet ms xs n (Ok tt))

    abbrev pub totalled : Result K Told
    totalled = of_sheet ms xs n (total_rule k (rows_of ms xs))

    abbrev pub averaged : Result K Told
    averaged = of_sheet ms xs n (mean_rule k (rows_of ms xs))

    abbrev pub compared : K → Result Bool Told
    compared limit = of_sheet ms xs n (exceeds_rule k (rows_of ms xs) limit)

-- A count by its number.
abbrev pub counts : Result Count Refusal → Result ℕ Told
counts r = result_map_both (λ c. c.value) told r

-- A row as a pair.
abbrev pub as_row : {K : Type 0} → Result (Row K) Told → Result (Mark × K) Told
as_row r = result_map_both (λ w. (w.mark, w.figure)) (λ t. t) r

-- A head by its number of rows.
abbrev pub opens : {K : Type 0} → Result OpenSheet Refusal → List ℕ → List K → Outcome ℕ K
opens r ms xs = record { answer = result_map_both (λ s. s.len) told r; slices = record { marks = ms; figures = xs } }

abbrev pub closes : Result ClosedSheet (OpenSheet × Refusal) → Result ℕ (ℕ × Told)
closes r = result_map_both (λ s. s.len) (λ p. (p.0.len, told p.1)) r

abbrev pub reopens : Result OpenSheet (ClosedSheet × Refusal) → Result ℕ (ℕ × Told)
reopens r = result_map_both (λ s. s.len) (λ p. (p.0.len, told p.1)) r
