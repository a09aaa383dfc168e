-- What a week becomes, and what its answers come to.
use Rattle.std.specs.Prelude.{ℕ, suc, Bool, cond, List, [], ◌∷◌, ◌++◌, length, Some, None, Option, ◌==◌}
use Rattle.std.specs.Option.{option_map}
use Rattle.refusals.specs.Refusals.{Told}
use Rattle.ledger.specs.declared.call.Call.TheVariants.{Enter, OnAll, Close, Total, Mean, Exceeds}
use Rattle.ledger.specs.declared.call.Listed.{Listed}
use Rattle.ledger.specs.Ledgers.{Reply, done, row, amount, verdict, refused, left_out, own_call}
use Rattle.sheet.specs.Refusals.{told}
use Rattle.scoring.specs.declared.judgement.Judgement.{Judgement}
use Rattle.scoring.specs.declared.judgement.Judgement.TheVariants.{Refused, Settled, Unsettled}

-- A store that sent a figure has it entered in its row; one that sent nothing has a free row.
abbrev pub enters_one : {K : Type 0} → ℕ → ℕ → Option K → List (Listed K)
enters_one n i (Some x) = own_call n (Enter i x) ∷ []
enters_one n i None = []

-- the same call, if there is one
abbrev pub entered : {K : Type 0} → ℕ → ℕ → Option K → Option (Listed K)
entered n i x = option_map (λ y. own_call n (Enter i y)) x

abbrev pub enters : {K : Type 0} → ℕ → ℕ → List (Option K) → List (Listed K)
enters n i [] = []
enters n i (x ∷ sent) = enters_one n i x ++ enters n (suc i) sent

-- then all are turned, and the sheet is closed, added up and held against the limit
abbrev pub settling : {K : Type 0} → ℕ → K → List (Listed K)
settling n limit = own_call n OnAll ∷ own_call n Close ∷ own_call n Total ∷ own_call n Mean ∷ own_call n (Exceeds limit) ∷ []

abbrev pub week_calls : {K : Type 0} → List (Option K) → K → List (Listed K)
week_calls sent limit = enters (length sent) 0 sent ++ settling (length sent) limit

-- What a week comes to, with a refusal as what is told of it.
pub data Verdict (K : Type 0) : Type 0 where
  refused_at : ℕ → Told → Verdict K
  settled : K → Option K → Bool → Verdict K
  unsettled : Verdict K

abbrev pub judged : {K : Type 0} → Judgement K → Verdict K
judged (Refused i refusal) = refused_at i (told refusal)
judged (Settled s) = settled s.total s.mean s.exceeds
judged Unsettled = unsettled

-- What reading one answer gives: the total and the mean so far, or the end.
pub data Reading (K : Type 0) : Type 0 where
  goes_on : Option K → Option K → Reading K
  ends : Verdict K → Reading K

-- the first amount is the total, the next one the mean
abbrev pub amount_read : {K : Type 0} → Option K → Option K → K → Reading K
amount_read None mean x = goes_on (Some x) mean
amount_read (Some total) mean x = goes_on (Some total) (Some x)

-- a verdict settles the week, if there is a total
abbrev pub verdict_read : {K : Type 0} → Option K → Option K → Bool → Reading K
verdict_read None mean exceeds = ends unsettled
verdict_read (Some total) mean exceeds = ends (settled total mean exceeds)

-- Any refusal refuses the week, but that a week with no scores has no mean.
abbrev pub next : {K : Type 0} → ℕ → Option K → Option K → Reply K → Reading K
next i total mean done = goes_on total mean
next i total mean (row m x) = goes_on total mean
next i total mean (amount x) = amount_read total mean x
next i total mean (verdict exceeds) = verdict_read total mean exceeds
next i total mean (refused t) = cond (t.number == 11) (goes_on total mean) (ends (refused_at i t))
next i total mean left_out = goes_on total mean

abbrev pub followed : {K : Type 0} → Reading K → (Option K → Option K → Verdict K) → Verdict K
followed (goes_on total mean) rest = rest total mean
followed (ends v) rest = v

-- The answers read one after another, from the one numbered i on.
abbrev pub judgement : {K : Type 0} → ℕ → Option K → Option K → List (Reply K) → Verdict K
judgement i total mean [] = unsettled
judgement i total mean (a ∷ answers) = followed (next i total mean a) (λ t m. judgement (suc i) t m answers)
