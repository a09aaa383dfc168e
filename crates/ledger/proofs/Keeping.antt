-- What the ledger of every list of calls keeps. Assumes nothing.
use Rattle.std.proofs.Common.{◌≡◌, ℕ, suc, Bool, true, false, cond, not, leb, List, [], ◌∷◌, length, Ok, Err, Result, sym, refl, ap, ◌∙◌, arith, length-set}
use lib.ListN.{length-map}
use Rattle.refusals.specs.Refusals.{Told}
use Rattle.kinds.specs.Kinds.{Meaning}
use Rattle.conversion.specs.Conversions.{Rule, Sound, in_range}
use Rattle.conversion.specs.Refusals as Conversion
use Rattle.ledger.specs.declared.mark.Mark.{Mark}
use Rattle.ledger.specs.declared.mark.Mark.TheVariants.{Free, Plain, Turned}
use Rattle.ledger.specs.declared.call.Call.{Call}
use Rattle.ledger.specs.declared.call.Call.TheVariants.{Enter, On, OnAll, Back, Clear, Read, Close, Reopen, Total, Mean, Exceeds}
use Rattle.ledger.specs.declared.call.Listed.{Listed}
use Rattle.ledger.specs.Marks.{held}
use Rattle.ledger.specs.Refusals.{no_such_row, is_held, not_a_number, is_free, at_row}
use Rattle.ledger.specs.Rules.{Row, refuse, and_then, row_by_row, enter_rule, clear_rule, on_mark, on_rule, back_mark, back_rule, convertible, on_all_rule, close_rule}
use Rattle.ledger.specs.Ledgers.{Ledger, Reply, done, row, amount, verdict, refused, left_out, Step, has, own, free_row, new_ledger, puts, becomes, turned_by, turn_row, turns_all, row_of, own_step, ledger_step, run, replies}
use Rattle.ledger.specs.Mirrors.{for_figure, refused_for_figure}
use Rattle.std.specs.List.{AllByRecursion, AllZip}
use Rattle.ledger.proofs.Each.{each_set, each_at, each_replicate, each_map, either}

-- what comes of a check that let pass
pub passed : {A : Type 0} (b : Bool) (t : Told) (r : Result A Told) (a : A) → refuse b t r ≡ Ok a → (b ≡ false) × (r ≡ Ok a)
passed true t r a e = let z : ◌≡◌ {A = ℕ} 0 1 = cc in absurd (omega arith)
passed false t r a e = (refl, e)

not_true : (b : Bool) → not b ≡ false → b ≡ true
not_true true e = refl
not_true false e = sym e

module _ {K : Type 0} (k : Meaning K) (c : Rule K) where
  -- a figure that an on gave
  abbrev pub Came : K → Type 0
  Came y = (x : K) × (k.number x ≡ true) × (y ≡ c.on x)

  -- What a row has by its mark: zero, a number, or what an on gave of a number.
  abbrev pub GoodAt : Mark → K → Type 0
  GoodAt Free x = x ≡ k.nought
  GoodAt Plain x = k.number x ≡ true
  GoodAt Turned x = Came x

  abbrev pub Good : Row K → Type 0
  Good r = GoodAt r.mark r.figure

  pub came_in : Sound k c → (y : K) → Came y → in_range k c y ≡ true
  came_in s y h = ap (in_range k c) h.2 ∙ s.on_in h.0 h.1

  module _ (n i : ℕ) (r : Row K) where
    enter_gives : (x y : K) → enter_rule k n i r x ≡ Ok y → k.number y ≡ true
    enter_gives x y e =
        let a = passed (leb n i) (no_such_row i) (refuse (held r.mark) (is_held i) (refuse (not (k.number x)) (not_a_number i) (Ok x))) y e in
        let b = passed (held r.mark) (is_held i) (refuse (not (k.number x)) (not_a_number i) (Ok x)) y a.1 in
        let d = passed (not (k.number x)) (not_a_number i) (Ok x) y b.1 in
        let same : x ≡ y = cc in
        ap k.number (sym same) ∙ not_true (k.number x) d.0

    clear_gives : (y : K) → clear_rule k n i r ≡ Ok y → y ≡ k.nought
    clear_gives y e =
        let a = passed (leb n i) (no_such_row i) (refuse (not (held r.mark)) (is_free i) (Ok k.nought)) y e in
        let b = passed (not (held r.mark)) (is_free i) (Ok k.nought) y a.1 in
        cc

    on_gives : (y : K) → on_rule k n i r c ≡ Ok y → Came y
    on_gives y e = go r.mark (k.number r.figure) refl (passed (leb n i) (no_such_row i) (on_mark k n i r c r.mark) y e).1
      where
        plain : (b : Bool) → k.number r.figure ≡ b → at_row i (cond b (Ok (c.on r.figure)) (Err Conversion.not_a_number)) ≡ Ok y → Came y
        plain true p e = let same : c.on r.figure ≡ y = cc in (r.figure, p, sym same)
        plain false p e = let z : ◌≡◌ {A = ℕ} 0 1 = cc in absurd (omega arith)

        go : (m : Mark) (b : Bool) → k.number r.figure ≡ b → on_mark k n i r c m ≡ Ok y → Came y
        go Free b p e = let z : ◌≡◌ {A = ℕ} 0 1 = cc in absurd (omega arith)
        go Plain b p e = plain (k.number r.figure) refl e
        go Turned b p e = let z : ◌≡◌ {A = ℕ} 0 1 = cc in absurd (omega arith)

    back_gives : Sound k c → (y : K) → back_rule k n i r c ≡ Ok y → k.number y ≡ true
    back_gives s y e = go r.mark (passed (leb n i) (no_such_row i) (back_mark k n i r c r.mark) y e).1
      where
        turned : (b : Bool) → in_range k c r.figure ≡ b → at_row i (cond b (Ok (c.back r.figure)) (Err Conversion.outside)) ≡ Ok y → k.number y ≡ true
        turned true p e = let same : c.back r.figure ≡ y = cc in ap k.number (sym same) ∙ s.back_number r.figure p
        turned false p e = let z : ◌≡◌ {A = ℕ} 0 1 = cc in absurd (omega arith)

        go : (m : Mark) → back_mark k n i r c m ≡ Ok y → k.number y ≡ true
        go Free e = let z : ◌≡◌ {A = ℕ} 0 1 = cc in absurd (omega arith)
        go Plain e = let z : ◌≡◌ {A = ℕ} 0 1 = cc in absurd (omega arith)
        go Turned e = turned (in_range k c r.figure) refl e

  -- an on_all of such rows is not refused
  pub all_convertible : (i : ℕ) (rows : List (Row K)) → AllByRecursion Good rows → row_by_row (convertible k c) i rows tt ≡ Ok tt
  all_convertible i [] h = refl
  all_convertible i (r ∷ rows) h = go r.mark r.figure h.0 ∙ all_convertible (suc i) rows h.1
    where
      go : (m : Mark) (x : K) → GoodAt m x → and_then (convertible k c i (record { mark = m; figure = x }) tt) (λ t. row_by_row (convertible k c) (suc i) rows t) ≡ row_by_row (convertible k c) (suc i) rows tt
      go Free x g = refl
      go Plain x g = ap (λ b. and_then (and_then (at_row i (cond b (Ok (c.on x)) (Err Conversion.not_a_number))) (λ _. Ok tt)) (λ t. row_by_row (convertible k c) (suc i) rows t)) g
      go Turned x g = refl

  turn_good : (r : Row K) → Good r → Good (turn_row k c r)
  turn_good r h = go r.mark r.figure h
    where
      go : (m : Mark) (x : K) → GoodAt m x → Good (turned_by k c m x)
      go Free x g = g
      go Plain x g = (x, g, refl)
      go Turned x g = g

  module _ (l : Ledger K) (h : AllByRecursion Good l.rows) where
    row_good : (i : ℕ) → Good (row_of k c l i)
    row_good i = each_at Good l.rows i (free_row k) h refl

    puts_good : (i : ℕ) (m : Mark) (r : Result K Told) → ((x : K) → r ≡ Ok x → GoodAt m x) → AllByRecursion Good (puts l i m r).after.rows
    puts_good i m (Ok x) g = each_set Good l.rows i (record { mark = m; figure = x }) h (g x refl)
    puts_good i m (Err t) g = h

    becomes_good : (b : Bool) (r : Result Unit Told) → AllByRecursion Good (becomes l b r).after.rows
    becomes_good b (Ok u) = h
    becomes_good b (Err t) = h

    all_good : (r : Result Unit Told) → AllByRecursion Good (turns_all k c l r).after.rows
    all_good (Ok u) = each_map Good Good (turn_row k c) turn_good l.rows h
    all_good (Err t) = h

    own_good : Sound k c → (call : Call K) → AllByRecursion Good (own_step k c l call).after.rows
    own_good s (Enter i x) = puts_good i Plain (enter_rule k (length l.rows) i (row_of k c l i) x) (enter_gives (length l.rows) i (row_of k c l i) x)
    own_good s (On i) = puts_good i Turned (on_rule k (length l.rows) i (row_of k c l i) c) (on_gives (length l.rows) i (row_of k c l i))
    own_good s OnAll = all_good (on_all_rule k c l.rows)
    own_good s (Back i) = puts_good i Plain (back_rule k (length l.rows) i (row_of k c l i) c) (back_gives (length l.rows) i (row_of k c l i) s)
    own_good s (Clear i) = puts_good i Free (clear_rule k (length l.rows) i (row_of k c l i)) (clear_gives (length l.rows) i (row_of k c l i))
    own_good s (Read i) = h
    own_good s Close = becomes_good true (close_rule l.rows)
    own_good s Reopen = becomes_good false (Ok tt)
    own_good s Total = h
    own_good s Mean = h
    own_good s (Exceeds x) = h

    pub step_good : Sound k c → (q : Listed K) → AllByRecursion Good (ledger_step k c l q).after.rows
    step_good s q =
        let Q : Step (Ledger K) K → Type 0 = λ z. AllByRecursion Good z.after.rows in
        either Q (has l.closed q.call) _ _ (either Q (own (length l.rows) q.marks q.figures) _ _ (own_good s q.call) h) h

    -- ---- no turn is refused for its figure
    on_fair : (i : ℕ) → refused_for_figure (On i) (puts l i Turned (on_rule k (length l.rows) i (row_of k c l i) c)).answer ≡ false
    on_fair i = go (leb (length l.rows) i) (row_of k c l i).mark (row_good i)
      where
        x : K
        x = (row_of k c l i).figure

        go : (b : Bool) (m : Mark) → GoodAt m x → refused_for_figure (On i) (puts l i Turned (refuse b (no_such_row i) (on_mark k (length l.rows) i (row_of k c l i) c m))).answer ≡ false
        go true m g = refl
        go false Free g = refl
        go false Plain g = ap (λ b. refused_for_figure (On i) (puts l i Turned (at_row i (cond b (Ok (c.on x)) (Err Conversion.not_a_number)))).answer) g
        go false Turned g = refl

    back_fair : Sound k c → (i : ℕ) → refused_for_figure (Back i) (puts l i Plain (back_rule k (length l.rows) i (row_of k c l i) c)).answer ≡ false
    back_fair s i = go (leb (length l.rows) i) (row_of k c l i).mark (row_good i)
      where
        x : K
        x = (row_of k c l i).figure

        go : (b : Bool) (m : Mark) → GoodAt m x → refused_for_figure (Back i) (puts l i Plain (refuse b (no_such_row i) (back_mark k (length l.rows) i (row_of k c l i) c m))).answer ≡ false
        go true m g = refl
        go false Free g = refl
        go false Plain g = refl
        go false Turned g = ap (λ b. refused_for_figure (Back i) (puts l i Plain (at_row i (cond b (Ok (c.back x)) (Err Conversion.outside)))).answer) (came_in s x g)

    all_fair : refused_for_figure OnAll (turns_all k c l (on_all_rule k c l.rows)).answer ≡ false
    all_fair = ap (λ r. refused_for_figure OnAll (turns_all k c l r).answer) (all_convertible 0 l.rows h)

    never : (call : Call K) (a : Reply K) → ((number : ℕ) → for_figure call number ≡ false) → refused_for_figure call a ≡ false
    never call done f = refl
    never call (row m x) f = refl
    never call (amount x) f = refl
    never call (verdict b) f = refl
    never call (refused t) f = f t.number
    never call left_out f = refl

    own_fair : Sound k c → (call : Call K) → refused_for_figure call (own_step k c l call).answer ≡ false
    own_fair s (Enter i x) = never (Enter i x) _ (λ n. refl)
    own_fair s (On i) = on_fair i
    own_fair s OnAll = all_fair
    own_fair s (Back i) = back_fair s i
    own_fair s (Clear i) = never (Clear i) _ (λ n. refl)
    own_fair s (Read i) = never (Read i) _ (λ n. refl)
    own_fair s Close = never Close _ (λ n. refl)
    own_fair s Reopen = refl
    own_fair s Total = never Total _ (λ n. refl)
    own_fair s Mean = never Mean _ (λ n. refl)
    own_fair s (Exceeds x) = never (Exceeds x) _ (λ n. refl)

    memory_fair : (call : Call K) → for_figure call 1 ≡ false
    memory_fair (Enter i x) = refl
    memory_fair (On i) = refl
    memory_fair OnAll = refl
    memory_fair (Back i) = refl
    memory_fair (Clear i) = refl
    memory_fair (Read i) = refl
    memory_fair Close = refl
    memory_fair Reopen = refl
    memory_fair Total = refl
    memory_fair Mean = refl
    memory_fair (Exceeds x) = refl

    pub step_fair : Sound k c → (q : Listed K) → refused_for_figure q.call (ledger_step k c l q).answer ≡ false
    step_fair s q =
        let Q : Step (Ledger K) K → Type 0 = λ z. refused_for_figure q.call z.answer ≡ false in
        either Q (has l.closed q.call) _ _ (either Q (own (length l.rows) q.marks q.figures) _ _ (own_fair s q.call) (memory_fair q.call)) refl

  -- ---- the number of rows stays
  module _ (l : Ledger K) where
    puts_length : (i : ℕ) (m : Mark) (r : Result K Told) → length (puts l i m r).after.rows ≡ length l.rows
    puts_length i m (Ok x) = length-set l.rows i (record { mark = m; figure = x })
    puts_length i m (Err t) = refl

    becomes_length : (b : Bool) (r : Result Unit Told) → length (becomes l b r).after.rows ≡ length l.rows
    becomes_length b (Ok u) = refl
    becomes_length b (Err t) = refl

    all_length : (r : Result Unit Told) → length (turns_all k c l r).after.rows ≡ length l.rows
    all_length (Ok u) = length-map l.rows (turn_row k c)
    all_length (Err t) = refl

    own_length : (call : Call K) → length (own_step k c l call).after.rows ≡ length l.rows
    own_length (Enter i x) = puts_length i Plain (enter_rule k (length l.rows) i (row_of k c l i) x)
    own_length (On i) = puts_length i Turned (on_rule k (length l.rows) i (row_of k c l i) c)
    own_length OnAll = all_length (on_all_rule k c l.rows)
    own_length (Back i) = puts_length i Plain (back_rule k (length l.rows) i (row_of k c l i) c)
    own_length (Clear i) = puts_length i Free (clear_rule k (length l.rows) i (row_of k c l i))
    own_length (Read i) = refl
    own_length Close = becomes_length true (close_rule l.rows)
    own_length Reopen = becomes_length false (Ok tt)
    own_length Total = refl
    own_length Mean = refl
    own_length (Exceeds x) = refl

    pub step_length : (q : Listed K) → length (ledger_step k c l q).after.rows ≡ length l.rows
    step_length q =
        let Q : Step (Ledger K) K → Type 0 = λ z. length z.after.rows ≡ length l.rows in
        either Q (has l.closed q.call) _ _ (either Q (own (length l.rows) q.marks q.figures) _ _ (own_length q.call) refl) refl

  -- ---- over a list of calls
  module _ (s : Sound k c) where
    pub run_good : (l : Ledger K) (calls : List (Listed K)) → AllByRecursion Good l.rows → AllByRecursion Good (run (ledger_step k c) l calls).rows
    run_good l [] h = h
    run_good l (q ∷ calls) h = run_good (ledger_step k c l q).after calls (step_good l h s q)

    pub run_fair : (l : Ledger K) (calls : List (Listed K)) → AllByRecursion Good l.rows → AllZip (λ q a. refused_for_figure q.call a ≡ false) calls (replies (ledger_step k c) l calls)
    run_fair l [] h = tt
    run_fair l (q ∷ calls) h = (step_fair l h s q, run_fair (ledger_step k c l q).after calls (step_good l h s q))

  pub new_good : (n : ℕ) → AllByRecursion Good (new_ledger k n).rows
  new_good n = each_replicate Good n (free_row k) refl
