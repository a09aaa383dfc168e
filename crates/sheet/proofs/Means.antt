-- What the counts and searches over the mark bytes of a sheet say of its rows. Assumes nothing.
use Rattle.std.proofs.Common.{◌≡◌, ℕ, suc, ◌+◌, ◌≤◌, Bool, true, false, not, cond, List, [], ◌∷◌, length, Ok, Err, Result, sym, refl, ap, ◌∙◌, nat_lt, arith}
use Rattle.std.specs.List.{count_by, position_or_len}
use Rattle.std.proofs.lemmas.Bool.Decides.{nat_tests}
use Rattle.std.proofs.lemmas.List.Sums.{sum_by-cons}
use Rattle.refusals.specs.Refusals.{Told}
use Rattle.ledger.specs.Marks.{mark_of, is_plain, is_turned}
use Rattle.ledger.specs.Refusals.{still_plain}
use Rattle.ledger.specs.Rules.{Row, refuse, and_then, turned_count, row_by_row, not_plain}
use Rattle.sheet.specs.Sheets.{rows_of}

abbrev first : List ℕ → ℕ
first ms = position_or_len (λ m. is_plain (mark_of m)) ms

module _ {K : Type 0} where
  -- the rows that are read of two slices are turned where the mark bytes say so
  pub count_rows : (ms : List ℕ) (xs : List K) → length xs ≡ length ms → turned_count (rows_of ms xs) ≡ count_by (λ m. is_turned (mark_of m)) ms
  count_rows [] xs e = refl
  count_rows (m ∷ ms) [] e = absurd (omega arith)
  count_rows (m ∷ ms) (x ∷ xs) e =
      ap (λ n. cond (is_turned (mark_of m)) 1 0 + n) (count_rows ms xs (omega arith)) ∙ sym (sum_by-cons (λ m. cond (is_turned (mark_of m)) 1 0) m ms)

  -- what a close finds from row i on
  abbrev closing : ℕ → List (Row K) → Result Unit Told
  closing i rows = row_by_row (λ i r _. not_plain i r.mark) i rows (tt {0})

  -- it is the first plain row
  pub first_plain : (i : ℕ) (ms : List ℕ) (xs : List K) → length xs ≡ length ms → row_by_row (λ i r _. not_plain i r.mark) i (rows_of ms xs) (tt {0}) ≡ cond (nat_lt (first ms) (length ms)) (Err (still_plain (i + first ms))) (Ok (tt {0}))
  first_plain i [] xs e = refl
  first_plain i (m ∷ ms) [] e = absurd (omega arith)
  first_plain i (m ∷ ms) (x ∷ xs) e = go (is_plain (mark_of m)) (first_plain (suc i) ms xs (omega arith))
    where
      go : (b : Bool) → closing (suc i) (rows_of ms xs) ≡ cond (nat_lt (first ms) (length ms)) (Err (still_plain (suc i + first ms))) (Ok (tt {0}))
          → and_then (refuse b (still_plain i) (Ok (tt {0}))) (λ _. closing (suc i) (rows_of ms xs)) ≡ cond (nat_lt (cond (not b) (1 + first ms) 0) (suc (length ms))) (Err (still_plain (i + cond (not b) (1 + first ms) 0))) (Ok (tt {0}))
      go true h = grind (arith, nat_tests)
      go false h = grind (arith, nat_tests, h)

pub one_at_most : (b : Bool) → cond b 1 0 ≤ 1
one_at_most true = omega arith
one_at_most false = omega arith
