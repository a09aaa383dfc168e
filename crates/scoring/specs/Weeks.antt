-- The score of a week.
use Rattle.std.specs.Prelude.{◌≡◌, ℕ, List, length, None, Ok, Err, Option, Result}
use Rattle.kinds.specs.Kinds.{Meaning}
use Rattle.conversion.specs.Conversions.{Rule}
use Rattle.sheet.specs.Sheets.{openable}
use Rattle.week.specs.declared.carry.Stop.{Stop}
use Rattle.week.specs.Law.{Law, Stopped, sheet_after, sheet_replies}
use Rattle.scoring.specs.declared.judgement.Judgement.{Judgement}
use Rattle.scoring.specs.Scores.{Verdict, judged, judgement, week_calls}

module _ {K : Type 0} (k : Meaning K) (c : Rule K) (sent : List (Option K)) (limit : K) (n : ℕ) where
  -- what the week comes to
  abbrev pub score : Verdict K
  score = judgement 0 None None (sheet_replies k c n (week_calls sent limit))

  pub record Scored (j : Judgement K) (ms : List ℕ) (xs : List K) : Type 0 where
    pub verdict : judged j ≡ score
    pub marks : ms ≡ (sheet_after k c n (week_calls sent limit)).slices.marks
    pub figures : xs ≡ (sheet_after k c n (week_calls sent limit)).slices.figures
    -- all that the law of a week says of its calls
    pub law : Law k c n (week_calls sent limit)

-- Scored on a sheet of as many rows as the slices have; or not begun, and then the slices are as found.
abbrev pub SettledBy : {K : Type 0} → Meaning K → Rule K → List (Option K) → K → List ℕ → List K → Result (Judgement K) Stop → List ℕ → List K → Type 0
SettledBy k c sent limit ms xs (Ok j) ms' xs' = (openable (length ms) (length xs) ≡ Ok (length ms)) × Scored k c sent limit (length ms) j ms' xs'
SettledBy k c sent limit ms xs (Err stop) ms' xs' = Stopped (length ms) (length xs) stop × (ms' ≡ ms) × (xs' ≡ xs)
