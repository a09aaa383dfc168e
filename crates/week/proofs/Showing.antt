-- The sheet shows its ledger, call by call. Assumes nothing.
use Rattle.std.proofs.Common.{◌≡◌, ℕ, Bool, true, false, cond, not, List, [], ◌∷◌, map, length, get_or, set, replicate, Ok, Err, Result, sym, refl, ap, ◌∙◌, arith}
use lib.ListN.{length-map, length-replicate, get_or-map}
use lib.Seq.{map-set}
use Rattle.std.proofs.lemmas.Bool.Decides.{nat_tests}
use Rattle.refusals.specs.Refusals.{Told}
use Rattle.kinds.specs.Kinds.{Meaning}
use Rattle.conversion.specs.Conversions.{Rule}
use Rattle.ledger.specs.declared.mark.Mark.{Mark}
use Rattle.ledger.specs.declared.mark.Mark.TheVariants.{Free, Plain, Turned}
use Rattle.ledger.specs.declared.call.Call.{Call}
use Rattle.ledger.specs.declared.call.Call.TheVariants.{Enter, On, OnAll, Back, Clear, Read, Close, Reopen, Total, Mean, Exceeds}
use Rattle.ledger.specs.declared.call.Listed.{Listed}
use Rattle.ledger.specs.Marks.{mark_of, byte_of, is_plain}
use Rattle.ledger.specs.Refusals.{memory}
use Rattle.ledger.specs.Rules.{Row, refuse, and_then, enter_rule, clear_rule, read_rule, on_rule, back_rule, close_rule, on_all_rule, total_rule, mean_rule, exceeds_rule}
use Rattle.ledger.specs.Ledgers.{Ledger, done, row, amount, verdict, refused, left_out, reply, Step, has, own, free_row, new_ledger, stays, puts, becomes, turn_row, turned_by, turns_all, row_of, own_step, ledger_step, run, replies}
use Rattle.ledger.proofs.Each.{map_replicate}
use Rattle.ledger.proofs.Keeping.{step_length}
use Rattle.sheet.specs.Sheets.{rows_of, row_at, put, put_all, of_sheet, mark_on, figures_on, head_of}
use Rattle.week.specs.Weeks.{Sheet, sheet_of, changed, unchanged, passed, called, called_at, aside, sheet_step, new_sheet}
use Rattle.week.specs.Law.{shown}

mark_byte : (m : Mark) → mark_of (byte_of m) ≡ m
mark_byte Free = refl
mark_byte Plain = refl
mark_byte Turned = refl

module _ {A K : Type 0} (ms : List ℕ) (xs : List K) (n : ℕ) (next : Result A Told) where
  memory_passes : own n (length ms) (length xs) ≡ true → of_sheet ms xs n next ≡ next
  memory_passes h = ap (λ b. and_then (refuse (not b) memory (Ok tt)) (λ _. next)) h

  memory_stops : own n (length ms) (length xs) ≡ false → of_sheet ms xs n next ≡ Err memory
  memory_stops h = ap (λ b. and_then (refuse (not b) memory (Ok tt)) (λ _. next)) h

own_same : (n : ℕ) → own n n n ≡ true
own_same n = grind (arith, nat_tests)

module _ {K : Type 0} where
  abbrev bytes : List (Row K) → List ℕ
  bytes rows = map (λ r. byte_of r.mark) rows

  abbrev figures : List (Row K) → List K
  figures rows = map (λ r. r.figure) rows

  -- the rows of the slices that show some rows
  pub rows_shown : (rows : List (Row K)) → rows_of (bytes rows) (figures rows) ≡ rows
  rows_shown [] = refl
  rows_shown (r ∷ rows) =
      ap (λ m. record { mark = m; figure = r.figure } ∷ rows_of (bytes rows) (figures rows)) (mark_byte r.mark) ∙ ap (λ l. r ∷ l) (rows_shown rows)

  abbrev show_step : Step (Ledger K) K → Step (Sheet K) K
  show_step s = record { after = shown s.after; answer = s.answer }

module _ {K : Type 0} (k : Meaning K) (c : Rule K) (l : Ledger K) (n : ℕ) (e : length l.rows ≡ n) where
  abbrev ms : List ℕ
  ms = bytes l.rows

  abbrev xs : List K
  xs = figures l.rows

  row_shown : (i : ℕ) → row_at k ms xs i ≡ row_of k c l i
  row_shown i =
      ap (λ b. record { mark = mark_of b; figure = get_or xs i k.nought }) (get_or-map (λ r. byte_of r.mark) l.rows i (free_row k))
      ∙ ap (λ x. record { mark = mark_of (byte_of (row_of k c l i).mark); figure = x }) (get_or-map (λ r. r.figure) l.rows i (free_row k))
      ∙ ap (λ m. record { mark = m; figure = (row_of k c l i).figure }) (mark_byte (row_of k c l i).mark)

  -- its own slices pass the check of the memory
  mine : {A : Type 0} (next : Result A Told) → of_sheet ms xs n next ≡ next
  mine next =
      memory_passes ms xs n next
      (ap (λ m. own n m (length xs)) (length-map l.rows (λ r. byte_of r.mark) ∙ e) ∙ ap (λ m. own n n m) (length-map l.rows (λ r. r.figure) ∙ e) ∙ own_same n)

  -- what a call on one row leaves
  put_shown : (i : ℕ) (m : Mark) (r : Result K Told) → changed l.closed (put ms xs i m r) ≡ show_step (puts l i m r)
  put_shown i m (Ok x) =
      ap (λ z. record { after = sheet_of l.closed z (set xs i x); answer = done }) (sym (map-set (λ r. byte_of r.mark) l.rows i (record { mark = m; figure = x })))
      ∙ ap (λ z. record { after = sheet_of l.closed (bytes (set l.rows i (record { mark = m; figure = x }))) z; answer = done }) (sym (map-set (λ r. r.figure) l.rows i (record { mark = m; figure = x })))
  put_shown i m (Err t) = refl

  row_call : (i : ℕ) (m : Mark) (rule : ℕ → Row K → Result K Told) → changed l.closed (put ms xs i m (of_sheet ms xs n (rule n (row_at k ms xs i)))) ≡ show_step (puts l i m (rule (length l.rows) (row_of k c l i)))
  row_call i m rule =
      ap (λ r. changed l.closed (put ms xs i m r)) (mine (rule n (row_at k ms xs i)) ∙ ap (rule n) (row_shown i) ∙ ap (λ z. rule z (row_of k c l i)) (sym e))
      ∙ put_shown i m (rule (length l.rows) (row_of k c l i))

  -- what an on_all leaves
  marks_turned : (rows : List (Row K)) → map mark_on (bytes rows) ≡ bytes (map (turn_row k c) rows)
  marks_turned [] = refl
  marks_turned (r ∷ rows) = ap (λ z. z ∷ map mark_on (bytes rows)) (go r.mark r.figure) ∙ ap (λ z. byte_of (turn_row k c r).mark ∷ z) (marks_turned rows)
    where
      go : (m : Mark) (x : K) → mark_on (byte_of m) ≡ byte_of (turned_by k c m x).mark
      go Free x = refl
      go Plain x = refl
      go Turned x = refl

  figures_turned : (rows : List (Row K)) → figures_on c (bytes rows) (figures rows) ≡ figures (map (turn_row k c) rows)
  figures_turned [] = refl
  figures_turned (r ∷ rows) = ap (λ z. z ∷ figures_on c (bytes rows) (figures rows)) (go r.mark r.figure) ∙ ap (λ z. (turn_row k c r).figure ∷ z) (figures_turned rows)
    where
      go : (m : Mark) (x : K) → cond (is_plain (mark_of (byte_of m))) (c.on x) x ≡ (turned_by k c m x).figure
      go Free x = refl
      go Plain x = refl
      go Turned x = refl

  all_shown : (r : Result Unit Told) → changed l.closed (put_all c ms xs r) ≡ show_step (turns_all k c l r)
  all_shown (Ok u) =
      ap (λ z. record { after = sheet_of l.closed z (figures_on c ms xs); answer = done }) (marks_turned l.rows)
      ∙ ap (λ z. record { after = sheet_of l.closed (bytes (map (turn_row k c) l.rows)) z; answer = done }) (figures_turned l.rows)
  all_shown (Err t) = refl

  pass_shown : (b : Bool) (r : Result Unit Told) → passed (shown l) b (head_of k ms xs n r) ≡ show_step (becomes l b r)
  pass_shown b (Ok u) = refl
  pass_shown b (Err t) = refl

  call_shown : (call : Call K) → called k c n l.closed ms xs call ≡ show_step (own_step k c l call)
  call_shown (Enter i x) = row_call i Plain (λ z r. enter_rule k z i r x)
  call_shown (On i) = row_call i Turned (λ z r. on_rule k z i r c)
  call_shown OnAll = ap (λ r. changed l.closed (put_all c ms xs r)) (mine (on_all_rule k c (rows_of ms xs)) ∙ ap (on_all_rule k c) (rows_shown l.rows)) ∙ all_shown (on_all_rule k c l.rows)
  call_shown (Back i) = row_call i Plain (λ z r. back_rule k z i r c)
  call_shown (Clear i) = row_call i Free (λ z r. clear_rule k z i r)
  call_shown (Read i) =
      ap (λ r. unchanged (shown l) (reply (λ r. row r.mark r.figure) r))
      (mine (read_rule k n i (row_at k ms xs i)) ∙ ap (read_rule k n i) (row_shown i) ∙ ap (λ z. read_rule k z i (row_of k c l i)) (sym e))
  call_shown Close = ap (λ r. passed (shown l) true (head_of k ms xs n r)) (mine (close_rule (rows_of ms xs)) ∙ ap close_rule (rows_shown l.rows)) ∙ pass_shown true (close_rule l.rows)
  call_shown Reopen = ap (λ r. passed (shown l) false (head_of k ms xs n r)) (mine (Ok tt)) ∙ pass_shown false (Ok tt)
  call_shown Total = ap (λ r. unchanged (shown l) (reply amount r)) (mine (total_rule k (rows_of ms xs)) ∙ ap (total_rule k) (rows_shown l.rows))
  call_shown Mean = ap (λ r. unchanged (shown l) (reply amount r)) (mine (mean_rule k (rows_of ms xs)) ∙ ap (mean_rule k) (rows_shown l.rows))
  call_shown (Exceeds limit) =
      ap (λ r. unchanged (shown l) (reply verdict r)) (mine (exceeds_rule k (rows_of ms xs) limit) ∙ ap (λ rows. exceeds_rule k rows limit) (rows_shown l.rows))

-- other memory is refused, and left as it was
module _ {K : Type 0} (k : Meaning K) (c : Rule K) (n : ℕ) (closed : Bool) (ms : List ℕ) (xs : List K) (other : own n (length ms) (length xs) ≡ false) where
  stops : {A : Type 0} (next : Result A Told) → of_sheet ms xs n next ≡ Err memory
  stops next = memory_stops ms xs n next other

  pub call_stops : (call : Call K) → called k c n closed ms xs call ≡ unchanged (sheet_of closed ms xs) (refused memory)
  call_stops (Enter i x) = ap (λ r. changed closed (put ms xs i Plain r)) (stops (enter_rule k n i (row_at k ms xs i) x))
  call_stops (On i) = ap (λ r. changed closed (put ms xs i Turned r)) (stops (on_rule k n i (row_at k ms xs i) c))
  call_stops OnAll = ap (λ r. changed closed (put_all c ms xs r)) (stops (on_all_rule k c (rows_of ms xs)))
  call_stops (Back i) = ap (λ r. changed closed (put ms xs i Plain r)) (stops (back_rule k n i (row_at k ms xs i) c))
  call_stops (Clear i) = ap (λ r. changed closed (put ms xs i Free r)) (stops (clear_rule k n i (row_at k ms xs i)))
  call_stops (Read i) = ap (λ r. unchanged (sheet_of closed ms xs) (reply (λ r. row r.mark r.figure) r)) (stops (read_rule k n i (row_at k ms xs i)))
  call_stops Close = ap (λ r. passed (sheet_of closed ms xs) true (head_of k ms xs n r)) (stops (close_rule (rows_of ms xs)))
  call_stops Reopen = ap (λ r. passed (sheet_of closed ms xs) false (head_of k ms xs n r)) (stops {A = Unit {0}} (Ok tt))
  call_stops Total = ap (λ r. unchanged (sheet_of closed ms xs) (reply amount r)) (stops (total_rule k (rows_of ms xs)))
  call_stops Mean = ap (λ r. unchanged (sheet_of closed ms xs) (reply amount r)) (stops (mean_rule k (rows_of ms xs)))
  call_stops (Exceeds limit) = ap (λ r. unchanged (sheet_of closed ms xs) (reply verdict r)) (stops (exceeds_rule k (rows_of ms xs) limit))

  pub other_stays : (call : Call K) → (called_at k c n (sheet_of closed ms xs) call).after ≡ sheet_of closed ms xs
  other_stays call = go (has closed call)
    where
      go : (h : Bool) → (cond h (called k c n closed ms xs call) (unchanged (sheet_of closed ms xs) left_out)).after ≡ sheet_of closed ms xs
      go true = ap (λ t. t.after) (call_stops call)
      go false = refl

module _ {K : Type 0} (k : Meaning K) (c : Rule K) where
  step_shown : (l : Ledger K) (n : ℕ) → length l.rows ≡ n → (q : Listed K) → sheet_step k c n (shown l) q ≡ show_step (ledger_step k c l q)
  step_shown l n e q = go (own n q.marks q.figures) (has l.closed q.call) refl ∙ ap (λ z. show_step (cond (has l.closed q.call) (cond (own z q.marks q.figures) (own_step k c l q.call) (stays l (refused memory))) (stays l left_out))) (sym e)
    where
      go : (o h : Bool) → own n q.marks q.figures ≡ o
          → cond o (cond h (called k c n l.closed (map (λ r. byte_of r.mark) l.rows) (map (λ r. r.figure) l.rows) q.call) (unchanged (shown l) left_out))
          (aside k c n (shown l) (cond h (called k c n l.closed (replicate q.marks 0) (replicate q.figures k.nought) q.call) (unchanged (sheet_of l.closed (replicate q.marks 0) (replicate q.figures k.nought)) left_out)))
          ≡ show_step (cond h (cond o (own_step k c l q.call) (stays l (refused memory))) (stays l left_out))
      go true true p = call_shown k c l n e q.call
      go true false p = refl
      go false true p =
          ap (aside k c n (shown l)) (call_stops k c n l.closed (replicate q.marks 0) (replicate q.figures k.nought)
          (ap (λ m. own n m (length (replicate q.figures k.nought))) (length-replicate q.marks 0) ∙ ap (λ m. own n q.marks m) (length-replicate q.figures k.nought) ∙ p) q.call)
      go false false p = refl

  pub run_shown : (l : Ledger K) (n : ℕ) → length l.rows ≡ n → (calls : List (Listed K)) → run (sheet_step k c n) (shown l) calls ≡ shown (run (ledger_step k c) l calls)
  run_shown l n e [] = refl
  run_shown l n e (q ∷ calls) = ap (λ s. run (sheet_step k c n) s.after calls) (step_shown l n e q) ∙ run_shown (ledger_step k c l q).after n (step_length k c l q ∙ e) calls

  pub replies_shown : (l : Ledger K) (n : ℕ) → length l.rows ≡ n → (calls : List (Listed K)) → replies (sheet_step k c n) (shown l) calls ≡ replies (ledger_step k c) l calls
  replies_shown l n e [] = refl
  replies_shown l n e (q ∷ calls) =
      ap (λ s. s.answer ∷ replies (sheet_step k c n) s.after calls) (step_shown l n e q)
      ∙ ap (λ z. (ledger_step k c l q).answer ∷ z) (replies_shown (ledger_step k c l q).after n (step_length k c l q ∙ e) calls)

  pub new_shown : (n : ℕ) → new_sheet k n ≡ shown (new_ledger k n)
  new_shown n =
      ap (λ z. sheet_of false z (replicate n k.nought)) (sym (map_replicate (λ r. byte_of r.mark) n (free_row k)))
      ∙ ap (λ z. sheet_of false (map (λ r. byte_of r.mark) (replicate n (free_row k))) z) (sym (map_replicate (λ r. r.figure) n (free_row k)))
