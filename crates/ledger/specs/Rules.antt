-- The rules of a sheet's calls: what each answers of the rows, or the first check that refuses. They are stated
-- once, for the rows that are read of two slices and for those of a ledger alike.
use Rattle.std.specs.Prelude.{ℕ, suc, ◌+◌, Bool, cond, not, ◌&&◌, List, [], ◌∷◌, Ok, Err, Result, ◌==◌, nat_le}
use Rattle.refusals.specs.Refusals.{Told}
use Rattle.kinds.specs.Kinds.{Meaning}
use Rattle.conversion.specs.Conversions.{Rule, on_answer, back_answer}
use Rattle.ledger.specs.declared.mark.Mark.{Mark}
use Rattle.ledger.specs.declared.mark.Mark.TheVariants.{Free, Plain, Turned}
use Rattle.ledger.specs.Marks.{held, is_plain, is_turned}
use Rattle.ledger.specs.Refusals.{at_row, no_such_row, is_held, not_a_number, is_free, wrong_way, still_plain, not_finite, sum_is_infinite, nothing_turned, no_limit}

-- a row of a sheet
pub record Row (K : Type 0) : Type 0 where
  pub mark : Mark
  pub figure : K

-- a check: refused where it holds, and otherwise what comes after it
abbrev pub refuse : {A : Type 0} → Bool → Told → Result A Told → Result A Told
refuse holds t next = cond holds (Err t) next

-- what comes after something that may have refused
abbrev pub and_then : {A B : Type 0} → Result A Told → (A → Result B Told) → Result B Told
and_then (Ok a) next = next a
and_then (Err t) next = Err t

-- The calls on one row, of n rows the one numbered i. The answer of the first four is the figure that the row then has.
module _ {K : Type 0} (k : Meaning K) (n i : ℕ) (r : Row K) where
  -- into a free row
  abbrev pub enter_rule : K → Result K Told
  enter_rule x = refuse (nat_le n i) (no_such_row i) (refuse (held r.mark) (is_held i) (refuse (not (k.number x)) (not_a_number i) (Ok x)))

  -- a held row becomes free, with figure zero
  abbrev pub clear_rule : Result K Told
  clear_rule = refuse (nat_le n i) (no_such_row i) (refuse (not (held r.mark)) (is_free i) (Ok k.nought))

  abbrev pub read_rule : Result (Row K) Told
  read_rule = refuse (nat_le n i) (no_such_row i) (Ok r)

  module _ (c : Rule K) where
    -- of a plain row
    abbrev pub on_mark : Mark → Result K Told
    on_mark Free = Err (is_free i)
    on_mark Plain = at_row i (on_answer k c r.figure)
    on_mark Turned = Err (wrong_way i)

    abbrev pub on_rule : Result K Told
    on_rule = refuse (nat_le n i) (no_such_row i) (on_mark r.mark)

    -- of a turned row
    abbrev pub back_mark : Mark → Result K Told
    back_mark Free = Err (is_free i)
    back_mark Plain = Err (wrong_way i)
    back_mark Turned = at_row i (back_answer k c r.figure)

    abbrev pub back_rule : Result K Told
    back_rule = refuse (nat_le n i) (no_such_row i) (back_mark r.mark)

-- The calls on all rows.

-- Row by row in row order, each row with its number and with what came of the rows before it; the first refusal ends it.
abbrev pub row_by_row : {K S : Type 0} → (ℕ → Row K → S → Result S Told) → ℕ → List (Row K) → S → Result S Told
row_by_row step i [] s = Ok s
row_by_row step i (r ∷ rows) s = and_then (step i r s) (λ t. row_by_row step (suc i) rows t)

-- close finds no plain row
abbrev pub not_plain : ℕ → Mark → Result Unit Told
not_plain i m = refuse (is_plain m) (still_plain i) (Ok tt)

abbrev pub close_rule : {K : Type 0} → List (Row K) → Result Unit Told
close_rule rows = row_by_row (λ i r _. not_plain i r.mark) 0 rows tt

-- on_all finds that the conversion takes the figure of every plain row
module _ {K : Type 0} (k : Meaning K) (c : Rule K) where
  abbrev pub convertible : ℕ → Row K → Unit {0} → Result Unit Told
  convertible i r u = cond (is_plain r.mark) (and_then (at_row i (on_answer k c r.figure)) (λ _. Ok tt)) (Ok tt)

  abbrev pub on_all_rule : List (Row K) → Result Unit Told
  on_all_rule rows = row_by_row convertible 0 rows tt

-- Totals.
abbrev pub turned_count : {K : Type 0} → List (Row K) → ℕ
turned_count [] = 0
turned_count (r ∷ rows) = cond (is_turned r.mark) 1 0 + turned_count rows

-- what a sum is divided by
abbrev pub some_turned : ℕ → Result ℕ Told
some_turned count = refuse (count == 0) nothing_turned (Ok count)

module _ {K : Type 0} (k : Meaning K) where
  -- a turned row is added to the sum of those before it
  abbrev pub added : ℕ → Row K → K → Result K Told
  added i r sum =
      cond (is_turned r.mark)
      (refuse (not (k.number r.figure && not (k.infinite r.figure))) (not_finite i)
      (refuse (k.infinite (k.plus sum r.figure)) (sum_is_infinite i)
      (Ok (k.plus sum r.figure))))
      (Ok sum)

  abbrev pub total_rule : List (Row K) → Result K Told
  total_rule rows = row_by_row added 0 rows k.nought

  -- the total over the count of turned rows
  abbrev pub mean_rule : List (Row K) → Result K Told
  mean_rule rows = and_then (some_turned (turned_count rows)) (λ n. and_then (total_rule rows) (λ s. Ok (k.over s n)))

  -- whether the total is greater than the limit
  abbrev pub exceeds_rule : List (Row K) → K → Result Bool Told
  exceeds_rule rows limit = refuse (not (k.number limit)) no_limit (and_then (total_rule rows) (λ s. Ok (k.greater s limit)))
