-- The totals of a ledger and of its mirror. Assumes nothing.
use Rattle.std.proofs.Common.{◌≡◌, ℕ, suc, ◌+◌, ◌≤◌, Bool, true, false, cond, not, ◌&&◌, eqb, List, [], ◌∷◌, map, length, Ok, Err, Result, sym, refl, ap, subst, arith}
use Rattle.std.proofs.lemmas.Bool.Decides.{nat_tests}
use Rattle.refusals.specs.Refusals.{Told}
use Rattle.kinds.specs.Kinds.{Meaning, Lawful, Summable, sum}
use Rattle.ledger.specs.declared.mark.Mark.{Mark}
use Rattle.ledger.specs.declared.mark.Mark.TheVariants.{Free, Plain, Turned}
use Rattle.ledger.specs.Marks.{is_turned}
use Rattle.ledger.specs.Refusals.{not_finite, sum_is_infinite, nothing_turned, no_limit}
use Rattle.ledger.specs.Rules.{Row, refuse, and_then, row_by_row, turned_count, some_turned, added, total_rule, mean_rule, exceeds_rule}
use Rattle.ledger.specs.Ledgers.{amount, verdict, reply}
use Rattle.ledger.specs.Mirrors.{mirror_row, Alike}

module _ {K : Type 0} (k : Meaning K) where
  -- What has been summed: each summand is a finite number, and no sum on the way was infinite, zero the first.
  abbrev Summed : List K → Type 0
  Summed [] = k.infinite k.nought ≡ false
  Summed (x ∷ earlier) = Summed earlier × (k.number x ≡ true) × (k.infinite x ≡ false) × (k.infinite (sum k (x ∷ earlier)) ≡ false)

  summable : (xs : List K) → Summed xs → Summable k xs × (k.infinite (sum k xs) ≡ false)
  summable [] z = (tt, z)
  summable (x ∷ earlier) (h, n, j, i) = let before = summable earlier h in ((before.0, before.1, n, j), i)

  -- two totals: refused alike, or the running sums of some numbers and of the same with their signs turned
  data Opposed : Result K Told → Result K Told → Type 0 where
    summed : (xs : List K) → length xs ≤ 4096 → Summed xs → Opposed (Ok (sum k xs)) (Ok (sum k (map k.turned xs)))
    alike : (t : Told) → Opposed (Err t) (Err t)

  pub count_few : (rows : List (Row K)) → turned_count rows ≤ length rows
  count_few [] = omega arith
  count_few (r ∷ rows) = go (is_turned r.mark) (count_few rows)
    where
      go : (b : Bool) → turned_count rows ≤ length rows → cond b 1 0 + turned_count rows ≤ suc (length rows)
      go true h = omega arith
      go false h = omega arith

  pub count_mirror : (rows : List (Row K)) → turned_count (map (mirror_row k) rows) ≡ turned_count rows
  count_mirror [] = refl
  count_mirror (r ∷ rows) = ap (λ n. cond (is_turned r.mark) 1 0 + n) (count_mirror rows)

  -- one turned row more, of both
  module _ (i : ℕ) (next next' : K → Result K Told) (s s' : K) where
    abbrev turn : Bool → Bool → Bool → K → (K → Result K Told) → Result K Told
    turn number infinite over t go = and_then (refuse (not (number && not infinite)) (not_finite i) (refuse over (sum_is_infinite i) (Ok t))) go

    both : (n f o n' f' o' : Bool) → n' ≡ n → f' ≡ f → (n ≡ true → f ≡ false → o' ≡ o) → (n ≡ true → f ≡ false → o ≡ false → Opposed (next s) (next' s'))
        → Opposed (turn n f o s next) (turn n' f' o' s' next')
    both false f o n' f' o' en ef eo r = subst (λ z. Opposed (Err (not_finite i)) (turn z f' o' s' next')) (sym en) (alike (not_finite i))
    both true true o n' f' o' en ef eo r =
        subst (λ z. Opposed (Err (not_finite i)) (turn z f' o' s' next')) (sym en)
        (subst (λ z. Opposed (Err (not_finite i)) (turn true z o' s' next')) (sym ef) (alike (not_finite i)))
    both true false true n' f' o' en ef eo r =
        subst (λ z. Opposed (Err (sum_is_infinite i)) (turn z f' o' s' next')) (sym en)
        (subst (λ z. Opposed (Err (sum_is_infinite i)) (turn true z o' s' next')) (sym ef)
        (subst (λ z. Opposed (Err (sum_is_infinite i)) (turn true false z s' next')) (sym (eo refl refl)) (alike (sum_is_infinite i))))
    both true false false n' f' o' en ef eo r =
        subst (λ z. Opposed (next s) (turn z f' o' s' next')) (sym en)
        (subst (λ z. Opposed (next s) (turn true z o' s' next')) (sym ef)
        (subst (λ z. Opposed (next s) (turn true false z s' next')) (sym (eo refl refl)) (r refl refl refl)))

  module _ (laws : Lawful k) (zero_finite : k.infinite k.nought ≡ false) where
    sums : (rows : List (Row K)) (i : ℕ) (xs : List K) → length xs + length rows ≤ 4096 → Summed xs
        → Opposed (row_by_row (added k) i rows (sum k xs)) (row_by_row (added k) i (map (mirror_row k) rows) (sum k (map k.turned xs)))
    sums [] i xs few ok = summed xs (omega arith) ok
    sums (r ∷ rows) i xs few ok =
        go r.mark r.figure (sums rows (suc i) xs (omega arith) ok) (λ x p. sums rows (suc i) (x ∷ xs) (omega arith) p)
      where
        go : (m : Mark) (x : K)
            → Opposed (row_by_row (added k) (suc i) rows (sum k xs)) (row_by_row (added k) (suc i) (map (mirror_row k) rows) (sum k (map k.turned xs)))
            → ((x : K) → Summed (x ∷ xs) → Opposed (row_by_row (added k) (suc i) rows (sum k (x ∷ xs))) (row_by_row (added k) (suc i) (map (mirror_row k) rows) (sum k (map k.turned (x ∷ xs)))))
            → Opposed (row_by_row (added k) i (record { mark = m; figure = x } ∷ rows) (sum k xs)) (row_by_row (added k) i (mirror_row k (record { mark = m; figure = x }) ∷ map (mirror_row k) rows) (sum k (map k.turned xs)))
        go Free x same more = same
        go Plain x same more = same
        go Turned x same more =
            both i (λ t. row_by_row (added k) (suc i) rows t) (λ t. row_by_row (added k) (suc i) (map (mirror_row k) rows) t) (sum k (x ∷ xs)) (sum k (map k.turned (x ∷ xs)))
            (k.number x) (k.infinite x) (k.infinite (sum k (x ∷ xs))) (k.number (k.turned x)) (k.infinite (k.turned x)) (k.infinite (sum k (map k.turned (x ∷ xs))))
            (laws.turned_number x) (laws.turned_infinite x)
            (λ p q. let before = summable xs ok in laws.sum_infinite (x ∷ xs) (omega arith) (before.0, before.1, p, q))
            (λ p q o. more x (ok, p, q, o))

    module _ (rows : List (Row K)) (few : length rows ≤ 4096) where
      abbrev mirror : List (Row K)
      mirror = map (mirror_row k) rows

      totals : Opposed (total_rule k rows) (total_rule k mirror)
      totals = sums rows 0 [] (omega arith) zero_finite

      total_alike : (a b : Result K Told) → Opposed a b → Alike k (reply amount a) (reply amount b)
      total_alike _ _ (summed xs n ok) = (let done = summable xs ok in (sum k (map k.turned xs), refl, laws.sum_turned xs n done.0 done.1))
      total_alike _ _ (alike t) = refl

      exceeds_alike : (limit : K) (v : Bool) (a b : Result K Told) → Opposed a b
          → Alike k (reply verdict (refuse v no_limit (and_then a (λ s. Ok (k.greater s limit))))) (reply verdict (refuse v no_limit (and_then b (λ s. Ok (k.greater s limit)))))
      exceeds_alike limit true _ _ o = refl
      exceeds_alike limit false _ _ (summed xs n ok) = (k.greater (sum k (map k.turned xs)) limit, refl)
      exceeds_alike limit false _ _ (alike t) = refl

      mean_alike : (n : ℕ) → n ≤ 4096 → (v : Bool) → eqb n 0 ≡ v → (a b : Result K Told) → Opposed a b
          → Alike k (reply amount (and_then (refuse v nothing_turned (Ok n)) (λ n. and_then a (λ s. Ok (k.over s n))))) (reply amount (and_then (refuse v nothing_turned (Ok n)) (λ n. and_then b (λ s. Ok (k.over s n)))))
      mean_alike n h true e _ _ o = refl
      mean_alike n h false e _ _ (summed xs m ok) =
          (let done = summable xs ok in (k.over (sum k (map k.turned xs)) n, refl, laws.mean_turned xs m done.0 done.1 n (some n e) h))
        where
          some : (n : ℕ) → eqb n 0 ≡ false → 1 ≤ n
          some n p = grind (arith, nat_tests)
      mean_alike n h false e _ _ (alike t) = refl

      -- the replies of the three, and those of the mirror
      pub totals_alike : Alike k (reply amount (total_rule k rows)) (reply amount (total_rule k mirror))
      totals_alike = total_alike (total_rule k rows) (total_rule k mirror) totals

      pub means_alike : Alike k (reply amount (mean_rule k rows)) (reply amount (mean_rule k mirror))
      means_alike =
          let few_turned = count_few rows in
          subst (λ n. Alike k (reply amount (mean_rule k rows)) (reply amount (and_then (some_turned n) (λ n. and_then (total_rule k mirror) (λ s. Ok (k.over s n)))))) (sym (count_mirror rows))
          (mean_alike (turned_count rows) (omega arith) (eqb (turned_count rows) 0) refl (total_rule k rows) (total_rule k mirror) totals)

      pub verdicts_alike : (limit : K) → Alike k (reply verdict (exceeds_rule k rows limit)) (reply verdict (exceeds_rule k mirror limit))
      verdicts_alike limit = exceeds_alike limit (not (k.number limit)) (total_rule k rows) (total_rule k mirror) totals
