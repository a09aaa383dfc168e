-- Slices that are written from left to right. Assumes nothing.
use Rattle.std.proofs.Common.{◌≡◌, ℕ, zero, suc, ◌+◌, ◌<◌, ◌≤◌, List, [], ◌∷◌, ◌++◌, length, get_or, take, drop, set, sym, refl, ap, ◌∙◌, add-one, arith}
use Rattle.std.proofs.lemmas.List.{take_all, drop_all, append-nil}

module _ {A : Type 0} where
  -- the new list up to i, and the old one from there
  abbrev pub up_to : ℕ → List A → List A → List A
  up_to i new old = take i new ++ drop i old

  set_up_to : (i : ℕ) (new old : List A) (v : A) → i < length new → length new ≡ length old → v ≡ get_or new i v → set (up_to i new old) i v ≡ up_to (suc i) new old
  set_up_to i [] old v h e r = absurd (omega arith)
  set_up_to i (n ∷ new) [] v h e r = absurd (omega arith)
  set_up_to zero (n ∷ new) (o ∷ old) v h e r = ap (λ z. z ∷ old) r
  set_up_to (suc i) (n ∷ new) (o ∷ old) v h e r = ap (λ l. n ∷ l) (set_up_to i new old v (omega arith) (omega arith) r)

  -- one element more
  pub filled_more : (cur new old : List A) (i : ℕ) (v : A) → cur ≡ up_to i new old → i < length new → length new ≡ length old → v ≡ get_or new i v → set cur i v ≡ up_to (i + 1) new old
  filled_more cur new old i v inv h e r = ap (λ l. set l i v) inv ∙ set_up_to i new old v h e r ∙ ap (λ n. up_to n new old) (sym (add-one i))

  pub filled_end : (cur new old : List A) (i : ℕ) → cur ≡ up_to i new old → length new ≤ i → length old ≤ i → cur ≡ new
  filled_end cur new old i inv h j = inv ∙ ap (λ l. l ++ drop i old) (take_all i new h) ∙ ap (λ l. new ++ l) (drop_all i old j) ∙ append-nil new

  -- what is not yet written
  pub unwritten : (new old : List A) (i : ℕ) (d : A) → length new ≡ length old → get_or (up_to i new old) i d ≡ get_or old i d
  unwritten new old zero d e = refl
  unwritten [] [] (suc i) d e = refl
  unwritten [] (o ∷ old) (suc i) d e = absurd (omega arith)
  unwritten (n ∷ new) [] (suc i) d e = absurd (omega arith)
  unwritten (n ∷ new) (o ∷ old) (suc i) d e = unwritten new old i d (omega arith)

  -- an element that is not yet written is the old one
  pub still : (cur new old : List A) (i : ℕ) (d : A) → cur ≡ up_to i new old → length new ≡ length old → get_or cur i d ≡ get_or old i d
  still cur new old i d inv e = ap (λ l. get_or l i d) inv ∙ unwritten new old i d e

-- there is something at every place of a list
pub some_at : {K : Type 0} (xs : List K) (i : ℕ) → i < length xs → (x : K) × (x ≡ get_or xs i x)
some_at [] i h = absurd (omega arith)
some_at (x ∷ xs) zero h = (x, refl)
some_at (x ∷ xs) (suc i) h = some_at xs i (omega arith)
