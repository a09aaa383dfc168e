-- The law of a week stands for every list of calls. Assumes nothing.
use Rattle.std.proofs.Common.{◌≡◌, ℕ, suc, ◌≤◌, Bool, true, false, cond, not, ◌&&◌, List, [], ◌∷◌, map, length, Ok, sym, refl, ap, ◌∙◌, subst, arith}
use lib.ListN.{length-replicate}
use Rattle.kinds.specs.Kinds.{Meaning, Lawful, sum}
use Rattle.conversion.specs.Conversions.{Rule, Sound, Mirrored, in_range}
use Rattle.conversion.specs.Layers.{number_in}
use Rattle.ledger.specs.declared.mark.Mark.{Mark}
use Rattle.ledger.specs.declared.mark.Mark.TheVariants.{Free, Plain, Turned}
use Rattle.ledger.specs.declared.call.Listed.{Listed}
use Rattle.ledger.specs.Marks.{byte_of, held, is_turned}
use Rattle.ledger.specs.Refusals.{not_finite, sum_is_infinite}
use Rattle.ledger.specs.Rules.{Row, refuse, and_then, row_by_row, added}
use Rattle.ledger.specs.Ledgers.{new_ledger, free_row, ledger_step, run, replies}
use Rattle.ledger.specs.Mirrors.{refused_for_figure, turn_held, mirror_row, mirror_ledger, mirror_listed, Alike}
use Rattle.std.specs.List.{AllByRecursion, AllZip}
use Rattle.ledger.proofs.Each.{each_also}
use Rattle.ledger.proofs.Keeping.{Good, GoodAt, came_in, run_good, run_fair, new_good}
use Rattle.ledger.proofs.Mirroring.{run_mirror, replies_mirror, new_mirror}
use Rattle.sheet.specs.Sheets.{rows_of}
use Rattle.week.specs.Weeks.{sheet_step}
use Rattle.week.specs.Law.{shown, turned_figures, sheet_after, sheet_replies, ledger_after, ledger_replies, rows_after, MirroredWeek, Law}
use Rattle.week.proofs.Showing.{rows_shown, run_shown, replies_shown, new_shown}

apart : ◌≡◌ {A = Bool} false true → ⊥
apart e = let z : ◌≡◌ {A = ℕ} 0 1 = ap (λ (b : Bool). cond b 1 0) e in omega arith

-- a total is the running sum of the turned figures
module _ {K : Type 0} (k : Meaning K) where
  total_sums : (rows : List (Row K)) (i : ℕ) (earlier : List K) (s : K) → row_by_row (added k) i rows (sum k earlier) ≡ Ok s → s ≡ sum k (turned_figures earlier rows)
  total_sums [] i earlier s e = let same : sum k earlier ≡ s = cc in sym same
  total_sums (r ∷ rows) i earlier s e = go r.mark r.figure (λ z. total_sums rows (suc i) z s) e
    where
      turned : (a b : Bool) (x : K) → ((z : List K) → row_by_row (added k) (suc i) rows (sum k z) ≡ Ok s → s ≡ sum k (turned_figures z rows))
          → and_then (refuse a (not_finite i) (refuse b (sum_is_infinite i) (Ok (k.plus (sum k earlier) x)))) (λ t. row_by_row (added k) (suc i) rows t) ≡ Ok s → s ≡ sum k (turned_figures (x ∷ earlier) rows)
      turned true b x rec e = let z : ◌≡◌ {A = ℕ} 0 1 = cc in absurd (omega arith)
      turned false true x rec e = let z : ◌≡◌ {A = ℕ} 0 1 = cc in absurd (omega arith)
      turned false false x rec e = rec (x ∷ earlier) e

      go : (m : Mark) (x : K) → ((z : List K) → row_by_row (added k) (suc i) rows (sum k z) ≡ Ok s → s ≡ sum k (turned_figures z rows))
          → row_by_row (added k) i (record { mark = m; figure = x } ∷ rows) (sum k earlier) ≡ Ok s → s ≡ sum k (turned_figures earlier (record { mark = m; figure = x } ∷ rows))
      go Free x rec e = rec earlier e
      go Plain x rec e = rec earlier e
      go Turned x rec e = turned (not (k.number x && not (k.infinite x))) (k.infinite (k.plus (sum k earlier) x)) x rec e

module _ {K : Type 0} (k : Meaning K) (c : Rule K) (lawful : Lawful k) (sound : Sound k c) (n : ℕ) (few : n ≤ 4096) where
  new_length : length (new_ledger k n).rows ≡ n
  new_length = length-replicate n (free_row k)

  after : (calls : List (Listed K)) → sheet_after k c n calls ≡ shown (ledger_after k c n calls)
  after calls = ap (λ s. run (sheet_step k c n) s calls) (new_shown k c n) ∙ run_shown k c (new_ledger k n) n new_length calls

  answered : (calls : List (Listed K)) → sheet_replies k c n calls ≡ ledger_replies k c n calls
  answered calls = ap (λ s. replies (sheet_step k c n) s calls) (new_shown k c n) ∙ replies_shown k c (new_ledger k n) n new_length calls

  rows : (calls : List (Listed K)) → rows_after k c n calls ≡ (ledger_after k c n calls).rows
  rows calls = ap (λ s. rows_of s.slices.marks s.slices.figures) (after calls) ∙ rows_shown (ledger_after k c n calls).rows

  good : (calls : List (Listed K)) → AllByRecursion (Good k c) (rows_after k c n calls)
  good calls = subst (AllByRecursion (Good k c)) (sym (rows calls)) (run_good k c sound (new_ledger k n) calls (new_good k c n))

  number_of : (r : Row K) → Good k c r → held r.mark ≡ true → k.number r.figure ≡ true
  number_of r g h = go r.mark r.figure g h
    where
      go : (m : Mark) (x : K) → GoodAt k c m x → held m ≡ true → k.number x ≡ true
      go Free x g h = absurd (apart h)
      go Plain x g h = g
      go Turned x g h = number_in k c x (came_in k c sound x g)

  within_of : (r : Row K) → Good k c r → is_turned r.mark ≡ true → in_range k c r.figure ≡ true
  within_of r g h = go r.mark r.figure g h
    where
      go : (m : Mark) (x : K) → GoodAt k c m x → is_turned m ≡ true → in_range k c x ≡ true
      go Free x g h = absurd (apart h)
      go Plain x g h = absurd (apart h)
      go Turned x g h = came_in k c sound x g

  zero_of : (r : Row K) → Good k c r → held r.mark ≡ false → r.figure ≡ k.nought
  zero_of r g h = go r.mark r.figure g h
    where
      go : (m : Mark) (x : K) → GoodAt k c m x → held m ≡ false → x ≡ k.nought
      go Free x g h = g
      go Plain x g h = absurd (apart (sym h))
      go Turned x g h = absurd (apart (sym h))

  -- the same list, mirrored
  module _ (zero_finite : k.infinite k.nought ≡ false) (odd : Mirrored k c) (calls : List (Listed K)) where
    abbrev mirror : List (Listed K)
    mirror = map (mirror_listed k) calls

    few_new : length (new_ledger k n).rows ≤ 4096
    few_new = let e = new_length in omega arith

    ledger_mirror : ledger_after k c n mirror ≡ mirror_ledger k (ledger_after k c n calls)
    ledger_mirror =
        ap (λ l. run (ledger_step k c) l mirror) (sym (new_mirror k c lawful zero_finite sound odd n)) ∙ run_mirror k c lawful zero_finite sound odd calls (new_ledger k n) (new_good k c n) few_new

    sheet_mirror : sheet_after k c n mirror ≡ shown (mirror_ledger k (ledger_after k c n calls))
    sheet_mirror = after mirror ∙ ap shown ledger_mirror

    marks_same : (rows : List (Row K)) → map (λ r. byte_of r.mark) (map (mirror_row k) rows) ≡ map (λ r. byte_of r.mark) rows
    marks_same [] = refl
    marks_same (r ∷ rows) = ap (λ z. byte_of r.mark ∷ z) (marks_same rows)

    figures_turned : (rows : List (Row K)) → map (λ r. r.figure) (map (mirror_row k) rows) ≡ map (λ r. turn_held k r.mark r.figure) rows
    figures_turned [] = refl
    figures_turned (r ∷ rows) = ap (λ z. turn_held k r.mark r.figure ∷ z) (figures_turned rows)

    replies_alike : AllZip (Alike k) (ledger_replies k c n calls) (ledger_replies k c n mirror)
    replies_alike =
        subst (λ l. AllZip (Alike k) (ledger_replies k c n calls) (replies (ledger_step k c) l mirror)) (new_mirror k c lawful zero_finite sound odd n)
        (replies_mirror k c lawful zero_finite sound odd calls (new_ledger k n) (new_good k c n) few_new)

    week_mirrored : MirroredWeek k c n calls
    week_mirrored = record {
      state = ap (λ s. s.closed) sheet_mirror ∙ sym (ap (λ s. s.closed) (after calls));
      marks = ap (λ s. s.slices.marks) sheet_mirror ∙ marks_same (ledger_after k c n calls).rows ∙ sym (ap (λ s. s.slices.marks) (after calls));
      figures = ap (λ s. s.slices.figures) sheet_mirror ∙ figures_turned (ledger_after k c n calls).rows ∙ sym (ap (map (λ r. turn_held k r.mark r.figure)) (rows calls));
      answers =
          subst (λ z. AllZip (Alike k) z (sheet_replies k c n mirror)) (sym (answered calls))
          (subst (λ z. AllZip (Alike k) (ledger_replies k c n calls) z) (sym (answered mirror)) replies_alike);
    }

  pub law_stands : (calls : List (Listed K)) → Law k c n calls
  law_stands calls = record {
    ledger = after calls;
    answers = answered calls;
    numbers = each_also (Good k c) (λ r. held r.mark ≡ true → k.number r.figure ≡ true) number_of (rows_after k c n calls) (good calls);
    within = each_also (Good k c) (λ r. is_turned r.mark ≡ true → in_range k c r.figure ≡ true) within_of (rows_after k c n calls) (good calls);
    zeros = each_also (Good k c) (λ r. held r.mark ≡ false → r.figure ≡ k.nought) zero_of (rows_after k c n calls) (good calls);
    fair = subst (λ z. AllZip (λ q a. refused_for_figure q.call a ≡ false) calls z) (sym (answered calls)) (run_fair k c sound (new_ledger k n) calls (new_good k c n));
    sums = λ s e. total_sums k (rows_after k c n calls) 0 [] s e;
    mirrored = λ zero_finite odd. week_mirrored zero_finite odd calls;
  }
