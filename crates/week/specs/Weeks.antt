-- A sheet over a list of calls, by what its calls are defined to do.
use Rattle.std.specs.Prelude.{◌≡◌, ℕ, ◌≤◌, Bool, true, false, cond, List, replicate, Ok, Err, Result}
use Rattle.refusals.specs.Refusals.{Told}
use Rattle.kinds.specs.Kinds.{Meaning}
use Rattle.conversion.specs.Conversions.{Rule}
use Rattle.ledger.specs.declared.mark.Mark.TheVariants as Mark
use Rattle.ledger.specs.declared.call.Call.{Call}
use Rattle.ledger.specs.declared.call.Call.TheVariants.{Enter, On, OnAll, Back, Clear, Read, Close, Reopen, Total, Mean, Exceeds}
use Rattle.ledger.specs.declared.call.Listed.{Listed}
use Rattle.ledger.specs.Marks.{byte_of}
use Rattle.ledger.specs.Ledgers.{Reply, done, row, amount, verdict, refused, left_out, reply, Step, has, own}
use Rattle.sheet.specs.Refusals.{told}
use Rattle.sheet.specs.Sheets.{Slices, Outcome, entered, cleared, row_read, turned_on, turned_back, all_turned_on, closing, reopening, totalled, averaged, compared}
use Rattle.week.specs.declared.answer.Answer.{Answer}
use Rattle.week.specs.declared.head.Sheet.{Sheet as Headed}
use Rattle.week.specs.declared.head.Sheet.TheVariants as Head

-- An answer of the code, with a refusal as what is told of it.
abbrev pub replied : {K : Type 0} → Answer K → Reply K
replied Answer.Done = done
replied (Answer.Row m x) = row m x
replied (Answer.Amount x) = amount x
replied (Answer.Verdict b) = verdict b
replied (Answer.Refused refusal) = refused (told refusal)
replied Answer.LeftOut = left_out

-- A sheet: whether it is closed, and its two slices.
pub record Sheet (K : Type 0) : Type 0 where
  pub closed : Bool
  pub slices : Slices K

abbrev pub sheet_of : {K : Type 0} → Bool → List ℕ → List K → Sheet K
sheet_of closed ms xs = record { closed = closed; slices = record { marks = ms; figures = xs } }

-- a head of the code with the slices that a call brings, and the number of rows that it has
abbrev pub is_closed : Headed → Bool
is_closed (Head.Open s) = false
is_closed (Head.Closed s) = true

abbrev pub seen : {K : Type 0} → Headed → List ℕ → List K → Sheet K
seen s ms xs = sheet_of (is_closed s) ms xs

abbrev pub size : Headed → ℕ
size (Head.Open s) = s.len
size (Head.Closed s) = s.len

module _ {K : Type 0} where
  -- a call that answers nothing but that it is carried out
  abbrev pub changed : Bool → Outcome Unit K → Step (Sheet K) K
  changed closed o = record { after = record { closed = closed; slices = o.slices }; answer = reply (λ _. done) o.answer }

  -- a call that only answers
  abbrev pub unchanged : Sheet K → Reply K → Step (Sheet K) K
  unchanged s a = record { after = s; answer = a }

  -- a close or a reopen, which gives a head or gives it back
  abbrev pub passed : Sheet K → Bool → Result ℕ (ℕ × Told) → Step (Sheet K) K
  passed s closed (Ok n) = record { after = record { closed = closed; slices = s.slices }; answer = done }
  passed s closed (Err p) = unchanged s (refused p.1)

-- Calls on a sheet of n rows, each with the slices that it brings.
module _ {K : Type 0} (k : Meaning K) (c : Rule K) (n : ℕ) where
  module _ (closed : Bool) (ms : List ℕ) (xs : List K) where
    abbrev pub called : Call K → Step (Sheet K) K
    called (Enter i x) = changed closed (entered k ms xs n i x)
    called (On i) = changed closed (turned_on k ms xs n c i)
    called OnAll = changed closed (all_turned_on k ms xs n c)
    called (Back i) = changed closed (turned_back k ms xs n c i)
    called (Clear i) = changed closed (cleared k ms xs n i)
    called (Read i) = unchanged (sheet_of closed ms xs) (reply (λ r. row r.mark r.figure) (row_read k ms xs n i))
    called Close = passed (sheet_of closed ms xs) true (closing k ms xs n)
    called Reopen = passed (sheet_of closed ms xs) false (reopening k ms xs n)
    called Total = unchanged (sheet_of closed ms xs) (reply amount (totalled k ms xs n))
    called Mean = unchanged (sheet_of closed ms xs) (reply amount (averaged k ms xs n))
    called (Exceeds limit) = unchanged (sheet_of closed ms xs) (reply verdict (compared k ms xs n limit))

  -- a call that the sheet has not, open or closed as it is, is left out
  abbrev pub called_at : Sheet K → Call K → Step (Sheet K) K
  called_at s call = cond (has s.closed call) (called s.closed s.slices.marks s.slices.figures call) (unchanged s left_out)

  -- A call of a list: with the sheet's own slices where both lengths are the sheet's, and otherwise with other memory of
  -- those lengths, by which the sheet's own slices are not touched.
  abbrev pub aside : Sheet K → Step (Sheet K) K → Step (Sheet K) K
  aside s t = record { after = record { closed = t.after.closed; slices = s.slices }; answer = t.answer }

  abbrev pub sheet_step : Sheet K → Listed K → Step (Sheet K) K
  sheet_step s q =
      cond (own n q.marks q.figures) (called_at s q.call)
      (aside s (called_at (sheet_of s.closed (replicate q.marks 0) (replicate q.figures k.nought)) q.call))

-- a sheet that was opened new
abbrev pub new_sheet : {K : Type 0} → Meaning K → ℕ → Sheet K
new_sheet k n = sheet_of false (replicate n (byte_of Mark.Free)) (replicate n k.nought)

-- What the code of one call does: the head keeps its number of rows, and all the rest is as defined.
pub record Stepped {K : Type 0} (k : Meaning K) (c : Rule K) (s : Headed) (ms : List ℕ) (xs : List K) (call : Call K) (t : Headed) (ms' : List ℕ) (xs' : List K) (a : Answer K) : Type 0 where
  pub same_size : size t ≡ size s
  pub after : seen t ms' xs' ≡ (called_at k c (size s) (seen s ms xs) call).after
  pub answer : replied a ≡ (called_at k c (size s) (seen s ms xs) call).answer

-- the same of a call of a list
pub record SteppedListed {K : Type 0} (k : Meaning K) (c : Rule K) (s : Headed) (ms : List ℕ) (xs : List K) (q : Listed K) (t : Headed) (ms' : List ℕ) (xs' : List K) (a : Answer K) : Type 0 where
  pub same_size : size t ≡ size s
  pub after : seen t ms' xs' ≡ (sheet_step k c (size s) (seen s ms xs) q).after
  pub answer : replied a ≡ (sheet_step k c (size s) (seen s ms xs) q).answer

-- other memory of these lengths is long enough for a call
abbrev pub FitsIn : {K : Type 0} → ℕ → ℕ → Listed K → Type 0
FitsIn marks figures q = (q.marks ≤ marks) × (q.figures ≤ figures)
