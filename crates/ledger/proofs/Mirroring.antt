-- The ledger of a mirrored list of calls mirrors the ledger of the list. Assumes nothing.
use Rattle.std.proofs.Common.{◌≡◌, ℕ, suc, ◌≤◌, Bool, true, false, cond, not, leb, List, [], ◌∷◌, map, length, set, Ok, Err, Result, sym, refl, ap, ◌∙◌, subst, arith}
use lib.ListN.{length-map, get_or-map}
use lib.Seq.{map-set}
use Rattle.std.specs.Result.{result_map_both}
use Rattle.refusals.specs.Refusals.{Told}
use Rattle.kinds.specs.Kinds.{Meaning, Lawful}
use Rattle.conversion.specs.Conversions.{Rule, Sound, Mirrored, in_range}
use Rattle.conversion.specs.Refusals as Conversion
use Rattle.ledger.specs.declared.mark.Mark.{Mark}
use Rattle.ledger.specs.declared.mark.Mark.TheVariants.{Free, Plain, Turned}
use Rattle.ledger.specs.declared.call.Call.{Call}
use Rattle.ledger.specs.declared.call.Call.TheVariants.{Enter, On, OnAll, Back, Clear, Read, Close, Reopen, Total, Mean, Exceeds}
use Rattle.ledger.specs.declared.call.Listed.{Listed}
use Rattle.ledger.specs.Marks.{held, is_plain}
use Rattle.ledger.specs.Refusals.{memory, no_such_row, is_held, not_a_number, still_plain, at_row}
use Rattle.ledger.specs.Rules.{Row, refuse, and_then, row_by_row, enter_rule, clear_rule, read_rule, on_mark, on_rule, back_mark, back_rule, on_all_rule, not_plain, close_rule}
use Rattle.ledger.specs.Ledgers.{Ledger, row, refused, left_out, reply, Step, has, own, free_row, new_ledger, stays, puts, becomes, turn_row, turned_by, turns_all, row_of, own_step, ledger_step, run, replies}
use Rattle.ledger.specs.Mirrors.{turn_held, mirror_row, mirror_ledger, mirror_call, mirror_listed, Alike}
use Rattle.std.specs.List.{AllByRecursion, AllZip}
use Rattle.ledger.proofs.Each.{each_at, each_map, map_replicate}
use Rattle.ledger.proofs.Keeping.{Good, GoodAt, step_good, step_length, all_convertible}
use Rattle.ledger.proofs.Summing.{totals_alike, means_alike, verdicts_alike}

module _ {K : Type 0} (k : Meaning K) (c : Rule K) (laws : Lawful k) (zero_finite : k.infinite k.nought ≡ false) (sound : Sound k c) (odd : Mirrored k c) where
  -- a step and its mirror
  record Reflects (s s' : Step (Ledger K) K) : Type 0 where
    after : s'.after ≡ mirror_ledger k s.after
    answer : Alike k s.answer s'.answer

  choose : (b : Bool) (x y x' y' : Step (Ledger K) K) → Reflects x x' → Reflects y y' → Reflects (cond b x y) (cond b x' y')
  choose true x y x' y' p q = p
  choose false x y x' y' p q = q

  module _ (n i : ℕ) where
    enter_mirror : (m : Mark) (y x : K) → enter_rule k n i (mirror_row k (record { mark = m; figure = y })) (k.turned x) ≡ result_map_both k.turned (λ t. t) (enter_rule k n i (record { mark = m; figure = y }) x)
    enter_mirror m y x =
        ap (λ v. refuse (leb n i) (no_such_row i) (refuse (held m) (is_held i) (refuse (not v) (not_a_number i) (Ok (k.turned x))))) (laws.turned_number x)
        ∙ go (leb n i) (held m) (not (k.number x))
      where
        go : (a b d : Bool) → refuse a (no_such_row i) (refuse b (is_held i) (refuse d (not_a_number i) (Ok (k.turned x)))) ≡ result_map_both k.turned (λ t. t) (refuse a (no_such_row i) (refuse b (is_held i) (refuse d (not_a_number i) (Ok x))))
        go true b d = refl
        go false true d = refl
        go false false true = refl
        go false false false = refl

    on_mirror : (m : Mark) (x : K) → on_rule k n i (mirror_row k (record { mark = m; figure = x })) c ≡ result_map_both k.turned (λ t. t) (on_rule k n i (record { mark = m; figure = x }) c)
    on_mirror m x = go (leb n i) m
      where
        plain : (v : Bool) → k.number x ≡ v → at_row i (cond v (Ok (c.on (k.turned x))) (Err Conversion.not_a_number)) ≡ result_map_both k.turned (λ t. t) (at_row i (cond v (Ok (c.on x)) (Err Conversion.not_a_number)))
        plain true p = ap Ok (odd.on_turned x p)
        plain false p = refl

        go : (b : Bool) (m : Mark) → refuse b (no_such_row i) (on_mark k n i (mirror_row k (record { mark = m; figure = x })) c m) ≡ result_map_both k.turned (λ t. t) (refuse b (no_such_row i) (on_mark k n i (record { mark = m; figure = x }) c m))
        go true m = refl
        go false Free = refl
        go false Plain = ap (λ v. at_row i (cond v (Ok (c.on (k.turned x))) (Err Conversion.not_a_number))) (laws.turned_number x) ∙ plain (k.number x) refl
        go false Turned = refl

    -- a turned row has what an on gave, so that its mirror lies in the back range too
    back_mirror : (m : Mark) (x : K) → GoodAt k c m x → back_rule k n i (mirror_row k (record { mark = m; figure = x })) c ≡ result_map_both k.turned (λ t. t) (back_rule k n i (record { mark = m; figure = x }) c)
    back_mirror m x g = go (leb n i) m g
      where
        go : (b : Bool) (m : Mark) → GoodAt k c m x → refuse b (no_such_row i) (back_mark k n i (mirror_row k (record { mark = m; figure = x })) c m) ≡ result_map_both k.turned (λ t. t) (refuse b (no_such_row i) (back_mark k n i (record { mark = m; figure = x }) c m))
        go true m g = refl
        go false Free g = refl
        go false Plain g = refl
        go false Turned (z, p, e) =
            let in_range_lem : in_range k c x ≡ true = ap (in_range k c) e ∙ sound.on_in z p in
            let turned_in : in_range k c (k.turned x) ≡ true = ap (in_range k c) (ap k.turned e ∙ sym (odd.on_turned z p)) ∙ sound.on_in (k.turned z) (laws.turned_number z ∙ p) in
            ap (λ v. at_row i (cond v (Ok (c.back (k.turned x))) (Err Conversion.outside))) turned_in
            ∙ ap Ok (odd.back_turned x in_range_lem)
            ∙ ap (λ v. result_map_both k.turned (λ t. t) (at_row i (cond v (Ok (c.back x)) (Err Conversion.outside)))) (sym in_range_lem)

  close_mirror : (i : ℕ) (rows : List (Row K)) → row_by_row (λ i r _. not_plain i r.mark) i (map (mirror_row k) rows) tt ≡ row_by_row (λ i r _. not_plain i r.mark) i rows tt
  close_mirror i [] = refl
  close_mirror i (r ∷ rows) = go (is_plain r.mark) (close_mirror (suc i) rows)
    where
      go : (b : Bool) → row_by_row (λ i r _. not_plain i r.mark) (suc i) (map (mirror_row k) rows) tt ≡ row_by_row (λ i r _. not_plain i r.mark) (suc i) rows tt
          → and_then (refuse b (still_plain i) (Ok tt)) (λ t. row_by_row (λ i r _. not_plain i r.mark) (suc i) (map (mirror_row k) rows) t) ≡ and_then (refuse b (still_plain i) (Ok tt)) (λ t. row_by_row (λ i r _. not_plain i r.mark) (suc i) rows t)
      go true h = refl
      go false h = h

  mirror_good : (r : Row K) → Good k c r → Good k c (mirror_row k r)
  mirror_good r h = go r.mark r.figure h
    where
      go : (m : Mark) (x : K) → GoodAt k c m x → GoodAt k c m (turn_held k m x)
      go Free x g = g
      go Plain x g = laws.turned_number x ∙ g
      go Turned x (z, p, e) = (k.turned z, laws.turned_number z ∙ p, ap k.turned e ∙ sym (odd.on_turned z p))

  turn_mirror : (rows : List (Row K)) → AllByRecursion (Good k c) rows → map (turn_row k c) (map (mirror_row k) rows) ≡ map (mirror_row k) (map (turn_row k c) rows)
  turn_mirror [] h = refl
  turn_mirror (r ∷ rows) h = ap (λ z. z ∷ map (turn_row k c) (map (mirror_row k) rows)) (go r.mark r.figure h.0) ∙ ap (λ l. mirror_row k (turn_row k c r) ∷ l) (turn_mirror rows h.1)
    where
      go : (m : Mark) (x : K) → GoodAt k c m x → turned_by k c m (turn_held k m x) ≡ mirror_row k (turned_by k c m x)
      go Free x g = refl
      go Plain x g = ap (λ y. record { mark = Turned; figure = y }) (odd.on_turned x g)
      go Turned x g = refl

  module _ (l : Ledger K) (h : AllByRecursion (Good k c) l.rows) (few : length l.rows ≤ 4096) where
    abbrev m : Ledger K
    m = mirror_ledger k l

    same_length : length m.rows ≡ length l.rows
    same_length = length-map l.rows (mirror_row k)

    row_mirror : (i : ℕ) → row_of k c m i ≡ mirror_row k (row_of k c l i)
    row_mirror i = get_or-map (mirror_row k) l.rows i (free_row k)

    row_good : (i : ℕ) → Good k c (row_of k c l i)
    row_good i = each_at (Good k c) l.rows i (free_row k) h refl

    -- the row i is put in both, by a function that the mirror has for its figure
    put_both : (i : ℕ) (mark : Mark) (f : K → K) → ((x : K) → f x ≡ turn_held k mark x) → (r : Result K Told) → Reflects (puts l i mark r) (puts m i mark (result_map_both f (λ t. t) r))
    put_both i mark f e (Ok x) = record {
      after = ap (λ rows. record { closed = l.closed; rows = rows }) (ap (λ y. set m.rows i (record { mark = mark; figure = y })) (e x) ∙ sym (map-set (mirror_row k) l.rows i (record { mark = mark; figure = x })));
      answer = refl;
    }
    put_both i mark f e (Err t) = record { after = refl; answer = refl }

    put_as : (i : ℕ) (mark : Mark) (f : K → K) → ((x : K) → f x ≡ turn_held k mark x) → (r r' : Result K Told) → r' ≡ result_map_both f (λ t. t) r → Reflects (puts l i mark r) (puts m i mark r')
    put_as i mark f e r r' same = subst (λ z. Reflects (puts l i mark r) (puts m i mark z)) (sym same) (put_both i mark f e r)

    become_both : (b : Bool) (r : Result Unit Told) → Reflects (becomes l b r) (becomes m b r)
    become_both b (Ok u) = record { after = refl; answer = refl }
    become_both b (Err t) = record { after = refl; answer = refl }

    read_both : (n i : ℕ) (r : Row K) (b : Bool) → Alike k (reply (λ r. row r.mark r.figure) (refuse b (no_such_row i) (Ok r))) (reply (λ r. row r.mark r.figure) (refuse b (no_such_row i) (Ok (mirror_row k r))))
    read_both n i r true = refl
    read_both n i r false = refl

    clear_same : (i : ℕ) (r : Result K Told) → r ≡ result_map_both (λ x. x) (λ t. t) r
    clear_same i (Ok x) = refl
    clear_same i (Err t) = refl

    own_both : (call : Call K) → Reflects (own_step k c l call) (own_step k c m (mirror_call k call))
    own_both (Enter i x) =
        put_as i Plain k.turned (λ y. refl) (enter_rule k (length l.rows) i (row_of k c l i) x) (enter_rule k (length m.rows) i (row_of k c m i) (k.turned x))
        (ap (λ n. enter_rule k n i (row_of k c m i) (k.turned x)) same_length ∙ ap (λ r. enter_rule k (length l.rows) i r (k.turned x)) (row_mirror i)
        ∙ enter_mirror (length l.rows) i (row_of k c l i).mark (row_of k c l i).figure x)
    own_both (On i) =
        put_as i Turned k.turned (λ y. refl) (on_rule k (length l.rows) i (row_of k c l i) c) (on_rule k (length m.rows) i (row_of k c m i) c)
        (ap (λ n. on_rule k n i (row_of k c m i) c) same_length ∙ ap (λ r. on_rule k (length l.rows) i r c) (row_mirror i)
        ∙ on_mirror (length l.rows) i (row_of k c l i).mark (row_of k c l i).figure)
    own_both OnAll =
        subst (λ r. Reflects (turns_all k c l r) (turns_all k c m (on_all_rule k c m.rows))) (sym (all_convertible k c 0 l.rows h))
        (subst (λ r. Reflects (turns_all k c l (Ok tt)) (turns_all k c m r)) (sym (all_convertible k c 0 m.rows (each_map (Good k c) (Good k c) (mirror_row k) mirror_good l.rows h)))
        (record { after = ap (λ rows. record { closed = l.closed; rows = rows }) (turn_mirror l.rows h); answer = refl }))
    own_both (Back i) =
        put_as i Plain k.turned (λ y. refl) (back_rule k (length l.rows) i (row_of k c l i) c) (back_rule k (length m.rows) i (row_of k c m i) c)
        (ap (λ n. back_rule k n i (row_of k c m i) c) same_length ∙ ap (λ r. back_rule k (length l.rows) i r c) (row_mirror i)
        ∙ back_mirror (length l.rows) i (row_of k c l i).mark (row_of k c l i).figure (row_good i))
    own_both (Clear i) =
        put_as i Free (λ x. x) (λ y. refl) (clear_rule k (length l.rows) i (row_of k c l i)) (clear_rule k (length m.rows) i (row_of k c m i))
        (ap (λ n. clear_rule k n i (row_of k c m i)) same_length ∙ ap (λ r. clear_rule k (length l.rows) i r) (row_mirror i)
        ∙ clear_same i (clear_rule k (length l.rows) i (row_of k c l i)))
    own_both (Read i) = record {
      after = refl;
      answer =
          subst (λ r. Alike k (reply (λ r. row r.mark r.figure) (read_rule k (length l.rows) i (row_of k c l i))) (reply (λ r. row r.mark r.figure) r))
          (sym (ap (λ n. read_rule k n i (row_of k c m i)) same_length ∙ ap (λ r. read_rule k (length l.rows) i r) (row_mirror i)))
          (read_both (length l.rows) i (row_of k c l i) (leb (length l.rows) i));
    }
    own_both Close = subst (λ r. Reflects (becomes l true (close_rule l.rows)) (becomes m true r)) (sym (close_mirror 0 l.rows)) (become_both true (close_rule l.rows))
    own_both Reopen = become_both false (Ok tt)
    own_both Total = record { after = refl; answer = totals_alike k laws zero_finite l.rows few }
    own_both Mean = record { after = refl; answer = means_alike k laws zero_finite l.rows few }
    own_both (Exceeds x) = record { after = refl; answer = verdicts_alike k laws zero_finite l.rows few x }

    has_both : (b : Bool) (call : Call K) → has b (mirror_call k call) ≡ has b call
    has_both b (Enter i x) = refl
    has_both b (On i) = refl
    has_both b OnAll = refl
    has_both b (Back i) = refl
    has_both b (Clear i) = refl
    has_both b (Read i) = refl
    has_both b Close = refl
    has_both b Reopen = refl
    has_both b Total = refl
    has_both b Mean = refl
    has_both b (Exceeds x) = refl

    step_both : (q : Listed K) → Reflects (ledger_step k c l q) (ledger_step k c m (mirror_listed k q))
    step_both q =
        subst (λ n. Reflects (ledger_step k c l q) (cond (has l.closed (mirror_call k q.call)) (cond (own n q.marks q.figures) (own_step k c m (mirror_call k q.call)) (stays m (refused memory))) (stays m left_out))) (sym same_length)
        (subst (λ b. Reflects (ledger_step k c l q) (cond b (cond (own (length l.rows) q.marks q.figures) (own_step k c m (mirror_call k q.call)) (stays m (refused memory))) (stays m left_out))) (sym (has_both l.closed q.call))
        (choose (has l.closed q.call) _ _ _ _
        (choose (own (length l.rows) q.marks q.figures) _ _ _ _ (own_both q.call) (record { after = refl; answer = refl }))
        (record { after = refl; answer = refl })))

  pub run_mirror : (calls : List (Listed K)) (l : Ledger K) → AllByRecursion (Good k c) l.rows → length l.rows ≤ 4096
      → run (ledger_step k c) (mirror_ledger k l) (map (mirror_listed k) calls) ≡ mirror_ledger k (run (ledger_step k c) l calls)
  run_mirror [] l h few = refl
  run_mirror (q ∷ calls) l h few =
      let next = (ledger_step k c l q).after in
      let long = step_length k c l q in
      ap (λ m. run (ledger_step k c) m (map (mirror_listed k) calls)) (step_both l h few q).after ∙ run_mirror calls next (step_good k c l h sound q) (omega arith)

  pub replies_mirror : (calls : List (Listed K)) (l : Ledger K) → AllByRecursion (Good k c) l.rows → length l.rows ≤ 4096
      → AllZip (Alike k) (replies (ledger_step k c) l calls) (replies (ledger_step k c) (mirror_ledger k l) (map (mirror_listed k) calls))
  replies_mirror [] l h few = tt
  replies_mirror (q ∷ calls) l h few =
      let next = (ledger_step k c l q).after in
      let long = step_length k c l q in (
        (step_both l h few q).answer,
        subst (λ m. AllZip (Alike k) (replies (ledger_step k c) next calls) (replies (ledger_step k c) m (map (mirror_listed k) calls))) (sym (step_both l h few q).after)
            (replies_mirror calls next (step_good k c l h sound q) (omega arith)),
      )

  pub new_mirror : (n : ℕ) → mirror_ledger k (new_ledger k n) ≡ new_ledger k n
  new_mirror n = ap (λ rows. record { closed = false; rows = rows }) (map_replicate (mirror_row k) n (free_row k))
