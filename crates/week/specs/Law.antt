-- The law of a week: what is true after every list of calls on a new sheet of n rows, whatever the calls are, carried out
-- or refused, in any order.
use Rattle.std.specs.Prelude.{◌≡◌, ℕ, true, false, cond, List, [], ◌∷◌, map, length, Ok, Err, vec_items, Result}
use Rattle.kinds.specs.Kinds.{Meaning, sum}
use Rattle.conversion.specs.Conversions.{Rule, Mirrored, in_range}
use Rattle.ledger.specs.declared.call.Listed.{Listed}
use Rattle.ledger.specs.Marks.{byte_of, held, is_turned}
use Rattle.ledger.specs.Rules.{Row, total_rule}
use Rattle.ledger.specs.Ledgers.{Ledger, Reply, new_ledger, ledger_step, run, replies}
use Rattle.ledger.specs.Mirrors.{refused_for_figure, turn_held, mirror_listed, Alike}
use Rattle.std.specs.List.{AllByRecursion, AllZip}
use Rattle.sheet.specs.Refusals.{told}
use Rattle.sheet.specs.Sheets.{rows_of, openable}
use Rattle.week.specs.declared.carry.Stop.{Stop}
use Rattle.week.specs.declared.carry.Stop.TheVariants.{Refused, NoMemory}
use Rattle.week.specs.declared.carry.Week.{Week}
use Rattle.week.specs.Weeks.{Sheet, sheet_of, sheet_step, new_sheet, seen, replied}

-- The sheet that shows a ledger: its marks as their bytes, and its figures bit for bit.
abbrev pub shown : {K : Type 0} → Ledger K → Sheet K
shown l = sheet_of l.closed (map (λ r. byte_of r.mark) l.rows) (map (λ r. r.figure) l.rows)

-- the figures of the turned rows, the last one first, as a running sum has them
abbrev pub turned_figures : {K : Type 0} → List K → List (Row K) → List K
turned_figures earlier [] = earlier
turned_figures earlier (r ∷ rows) = turned_figures (cond (is_turned r.mark) (r.figure ∷ earlier) earlier) rows

module _ {K : Type 0} (k : Meaning K) (c : Rule K) (n : ℕ) where
  -- the sheet after a list of calls, what they were answered, and the same of the ledger
  abbrev pub sheet_after : List (Listed K) → Sheet K
  sheet_after calls = run (sheet_step k c n) (new_sheet k n) calls

  abbrev pub sheet_replies : List (Listed K) → List (Reply K)
  sheet_replies calls = replies (sheet_step k c n) (new_sheet k n) calls

  abbrev pub ledger_after : List (Listed K) → Ledger K
  ledger_after calls = run (ledger_step k c) (new_ledger k n) calls

  abbrev pub ledger_replies : List (Listed K) → List (Reply K)
  ledger_replies calls = replies (ledger_step k c) (new_ledger k n) calls

  -- the rows that can then be read of the sheet
  abbrev pub rows_after : List (Listed K) → List (Row K)
  rows_after calls = rows_of (sheet_after calls).slices.marks (sheet_after calls).slices.figures

  -- The same list on a second new sheet of n rows, with every figure that is entered sign-turned: it is closed where the
  -- first is, its marks are equal, its held figures are the first's sign-turned bit for bit, free ones are as the first's,
  -- and its calls are answered alike.
  pub record MirroredWeek (calls : List (Listed K)) : Type 0 where
    pub state : (sheet_after (map (mirror_listed k) calls)).closed ≡ (sheet_after calls).closed
    pub marks : (sheet_after (map (mirror_listed k) calls)).slices.marks ≡ (sheet_after calls).slices.marks
    pub figures : (sheet_after (map (mirror_listed k) calls)).slices.figures ≡ map (λ r. turn_held k r.mark r.figure) (rows_after calls)
    pub answers : AllZip (Alike k) (sheet_replies calls) (sheet_replies (map (mirror_listed k) calls))

  pub record Law (calls : List (Listed K)) : Type 0 where
    -- marks, figures, state and answers are the ledger's
    pub ledger : sheet_after calls ≡ shown (ledger_after calls)
    pub answers : sheet_replies calls ≡ ledger_replies calls
    -- each held row has a number, each turned row one within the conversion's ends, and each free row zero
    pub numbers : AllByRecursion (λ r. held r.mark ≡ true → k.number r.figure ≡ true) (rows_after calls)
    pub within : AllByRecursion (λ r. is_turned r.mark ≡ true → in_range k c r.figure ≡ true) (rows_after calls)
    pub zeros : AllByRecursion (λ r. held r.mark ≡ false → r.figure ≡ k.nought) (rows_after calls)
    -- no call is refused for its figure
    pub fair : AllZip (λ q a. refused_for_figure q.call a ≡ false) calls (sheet_replies calls)
    -- a total, where there is one, is the running sum of the turned figures in row order
    pub sums : (s : K) → total_rule k (rows_after calls) ≡ Ok s → s ≡ sum k (turned_figures [] (rows_after calls))
    -- under an odd conversion, of a kind whose zero is not infinite
    pub mirrored : k.infinite k.nought ≡ false → Mirrored k c → MirroredWeek calls

-- What carrying out a list gives: the sheet of the definitions, their answers, and the law.
pub record Carried {K : Type 0} (k : Meaning K) (c : Rule K) (n : ℕ) (calls : List (Listed K)) (sheet : Sheet K) (answers : List (Reply K)) : Type 0 where
  pub after : sheet ≡ sheet_after k c n calls
  pub answered : answers ≡ sheet_replies k c n calls
  pub law : Law k c n calls

-- why it was not begun: the two slices make no sheet, or there was no memory for the answers
abbrev pub Stopped : ℕ → ℕ → Stop → Type 0
Stopped marks figures (Refused refusal) = openable marks figures ≡ Err (told refusal)
Stopped marks figures NoMemory = Unit {0}

-- Carried out on a sheet opened new; or not begun, and then the slices are as found.
abbrev pub CarriedOut : {K : Type 0} → Meaning K → Rule K → List (Listed K) → List ℕ → List K → Result (Week K) Stop → List ℕ → List K → Type 0
CarriedOut k c calls ms xs (Ok week) ms' xs' = (openable (length ms) (length xs) ≡ Ok (length ms)) × Carried k c (length ms) calls (seen week.sheet ms' xs') (map replied (vec_items week.answers))
CarriedOut k c calls ms xs (Err stop) ms' xs' = Stopped (length ms) (length xs) stop × (ms' ≡ ms) × (xs' ≡ xs)
