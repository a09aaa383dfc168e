-- The ledger. It knows the number of rows, the calls with their arguments, of the two slices of a call only the lengths,
-- and the conversion; it never sees the memory of a sheet.
use Rattle.std.specs.Prelude.{ℕ, Bool, true, false, cond, not, ◌&&◌, List, [], ◌∷◌, map, length, replicate, Ok, Err, Result, ◌==◌, slice_index_or, slice_set}
use Rattle.refusals.specs.Refusals.{Told}
use Rattle.kinds.specs.Kinds.{Meaning}
use Rattle.conversion.specs.Conversions.{Rule}
use Rattle.ledger.specs.declared.mark.Mark.{Mark}
use Rattle.ledger.specs.declared.mark.Mark.TheVariants.{Free, Plain, Turned}
use Rattle.ledger.specs.declared.call.Call.{Call}
use Rattle.ledger.specs.declared.call.Call.TheVariants.{Enter, On, OnAll, Back, Clear, Read, Close, Reopen, Total, Mean, Exceeds}
use Rattle.ledger.specs.declared.call.Listed.{Listed}
use Rattle.ledger.specs.Refusals.{memory}
use Rattle.ledger.specs.Rules.{Row, enter_rule, clear_rule, read_rule, on_rule, back_rule, close_rule, on_all_rule, total_rule, mean_rule, exceeds_rule}

-- What a call of a list is answered.
pub data Reply (K : Type 0) : Type 0 where
  -- carried out
  done : Reply K
  -- a row that was read
  row : Mark → K → Reply K
  -- a total or a mean
  amount : K → Reply K
  -- whether the total is greater than the limit
  verdict : Bool → Reply K
  refused : Told → Reply K
  -- the sheet has no such call while it is open, or while it is closed: nothing was called
  left_out : Reply K

-- An answer as a reply.
abbrev pub reply : {A K : Type 0} → (A → Reply K) → Result A Told → Reply K
reply f (Ok a) = f a
reply f (Err t) = refused t

-- A row of a list or of a ledger, and what a step leaves and answers.
pub record Step (S K : Type 0) : Type 0 where
  pub after : S
  pub answer : Reply K

-- An open sheet has the calls that change rows, and is closed; a closed one has totals, and is reopened; both are read.
abbrev pub has : {K : Type 0} → Bool → Call K → Bool
has closed (Enter i x) = not closed
has closed (On i) = not closed
has closed OnAll = not closed
has closed (Back i) = not closed
has closed (Clear i) = not closed
has closed (Read i) = true
has closed Close = not closed
has closed Reopen = closed
has closed Total = closed
has closed Mean = closed
has closed (Exceeds x) = closed

-- whether two lengths are those of a sheet of n rows
abbrev pub own : ℕ → ℕ → ℕ → Bool
own n marks figures = marks == n && figures == n

-- a call with the two slices of a sheet of n rows
abbrev pub own_call : {K : Type 0} → ℕ → Call K → Listed K
own_call n call = record { marks = n; figures = n; call = call }

pub record Ledger (K : Type 0) : Type 0 where
  pub closed : Bool
  pub rows : List (Row K)

module _ {K : Type 0} (k : Meaning K) where
  abbrev pub free_row : Row K
  free_row = record { mark = Free; figure = k.nought }

  -- at first it is open, and every row is free with figure zero
  abbrev pub new_ledger : ℕ → Ledger K
  new_ledger n = record { closed = false; rows = replicate n free_row }

module _ {K : Type 0} (l : Ledger K) where
  -- an answer that changes nothing
  abbrev pub stays : Reply K → Step (Ledger K) K
  stays a = record { after = l; answer = a }

  -- the row i gets a mark and the figure, or nothing changes
  abbrev pub puts : ℕ → Mark → Result K Told → Step (Ledger K) K
  puts i m (Ok x) = record { after = record { closed = l.closed; rows = slice_set l.rows i (record { mark = m; figure = x }) }; answer = done }
  puts i m (Err t) = stays (refused t)

  -- closed or open from now on, or nothing changes
  abbrev pub becomes : Bool → Result Unit Told → Step (Ledger K) K
  becomes closed (Ok u) = record { after = record { closed = closed; rows = l.rows }; answer = done }
  becomes closed (Err t) = stays (refused t)

module _ {K : Type 0} (k : Meaning K) (c : Rule K) where
  -- on to a plain row
  abbrev pub turned_by : Mark → K → Row K
  turned_by Free x = record { mark = Free; figure = x }
  turned_by Plain x = record { mark = Turned; figure = c.on x }
  turned_by Turned x = record { mark = Turned; figure = x }

  abbrev pub turn_row : Row K → Row K
  turn_row r = turned_by r.mark r.figure

  -- on to every plain row, or nothing changes
  abbrev pub turns_all : Ledger K → Result Unit Told → Step (Ledger K) K
  turns_all l (Ok u) = record { after = record { closed = l.closed; rows = map turn_row l.rows }; answer = done }
  turns_all l (Err t) = stays l (refused t)

  -- a call that the state has, with the sheet's own memory
  module _ (l : Ledger K) where
    abbrev pub row_of : ℕ → Row K
    row_of i = slice_index_or l.rows i (free_row k)

    abbrev pub own_step : Call K → Step (Ledger K) K
    own_step (Enter i x) = puts l i Plain (enter_rule k (length l.rows) i (row_of i) x)
    own_step (On i) = puts l i Turned (on_rule k (length l.rows) i (row_of i) c)
    own_step OnAll = turns_all l (on_all_rule k c l.rows)
    own_step (Back i) = puts l i Plain (back_rule k (length l.rows) i (row_of i) c)
    own_step (Clear i) = puts l i Free (clear_rule k (length l.rows) i (row_of i))
    own_step (Read i) = stays l (reply (λ r. row r.mark r.figure) (read_rule k (length l.rows) i (row_of i)))
    own_step Close = becomes l true (close_rule l.rows)
    own_step Reopen = becomes l false (Ok tt)
    own_step Total = stays l (reply amount (total_rule k l.rows))
    own_step Mean = stays l (reply amount (mean_rule k l.rows))
    own_step (Exceeds limit) = stays l (reply verdict (exceeds_rule k l.rows limit))

    abbrev pub ledger_step : Listed K → Step (Ledger K) K
    ledger_step q =
        cond (has l.closed q.call) (cond (own (length l.rows) q.marks q.figures) (own_step q.call) (stays l (refused memory))) (stays l left_out)

-- What a list of calls leaves, and what its calls are answered, one after another.
module _ {S K : Type 0} (step : S → Listed K → Step S K) where
  abbrev pub run : S → List (Listed K) → S
  run s [] = s
  run s (q ∷ calls) = run (step s q).after calls

  abbrev pub replies : S → List (Listed K) → List (Reply K)
  replies s [] = []
  replies s (q ∷ calls) = (step s q).answer ∷ replies (step s q).after calls
