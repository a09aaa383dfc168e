-- The rows that an on_all turns, one by one. Assumes nothing.
use Rattle.std.proofs.Common.{◌≡◌, ℕ, zero, suc, ◌<◌, Bool, true, false, cond, List, [], ◌∷◌, length, get_or, Ok, Err, Result, sym, refl, ap, ◌∙◌, arith}
use Rattle.refusals.specs.Refusals.{Told}
use Rattle.kinds.specs.Kinds.{Meaning}
use Rattle.conversion.specs.Conversions.{Rule}
use Rattle.conversion.specs.Refusals.{not_a_number}
use Rattle.ledger.specs.Marks.{mark_of, is_plain}
use Rattle.ledger.specs.Refusals.{at_row}
use Rattle.ledger.specs.Rules.{Row, and_then, row_by_row, convertible}
use Rattle.sheet.specs.Sheets.{rows_of, figures_on}

-- what is carried out as a whole is carried out at its start, and after it
and_first : {A B : Type 0} (a : Result A Told) (next : A → Result B Told) (b : B) → and_then a next ≡ Ok b → (v : A) × (a ≡ Ok v) × (next v ≡ Ok b)
and_first (Ok v) next b e = (v, refl, e)
and_first (Err t) next b e = let z : ◌≡◌ {A = ℕ} 0 1 = cc in absurd (omega arith)

module _ {K : Type 0} (k : Meaning K) (c : Rule K) where
  -- a row that is convertible and plain has a number
  number_of : (i : ℕ) (r : Row K) (v : Unit {0}) → is_plain r.mark ≡ true → convertible k c i r tt ≡ Ok v → k.number r.figure ≡ true
  number_of i r v p e = go (k.number r.figure) (ap (λ b. cond b (and_then (at_row i (cond (k.number r.figure) (Ok (c.on r.figure)) (Err not_a_number))) (λ _. Ok tt)) (Ok tt)) (sym p) ∙ e)
    where
      go : (b : Bool) → and_then (at_row i (cond b (Ok (c.on r.figure)) (Err not_a_number))) (λ _. Ok tt) ≡ Ok v → b ≡ true
      go true e = refl
      go false e = let z : ◌≡◌ {A = ℕ} 0 1 = cc in absurd (omega arith)

  -- where an on_all is not refused, every plain row has a number
  pub number_at : (ms : List ℕ) (xs : List K) (j i : ℕ) (x : K) → row_by_row (convertible k c) j (rows_of ms xs) tt ≡ Ok tt
      → i < length ms → length xs ≡ length ms → x ≡ get_or xs i x → is_plain (mark_of (get_or ms i 0)) ≡ true → k.number x ≡ true
  number_at [] xs j i x all h l e p = absurd (omega arith)
  number_at (m ∷ ms) [] j i x all h l e p = absurd (omega arith)
  number_at (m ∷ ms) (y ∷ xs) j zero x all h l e p =
      let first = and_first (convertible k c j (record { mark = mark_of m; figure = y }) tt) (λ t. row_by_row (convertible k c) (suc j) (rows_of ms xs) t) tt all in
      ap k.number e ∙ number_of j (record { mark = mark_of m; figure = y }) first.0 p first.1
  number_at (m ∷ ms) (y ∷ xs) j (suc i) x all h l e p =
      let first = and_first (convertible k c j (record { mark = mark_of m; figure = y }) tt) (λ t. row_by_row (convertible k c) (suc j) (rows_of ms xs) t) tt all in
      number_at ms xs (suc j) i x first.2 (omega arith) (omega arith) e p

-- the figures that an on_all leaves
module _ {K : Type 0} (c : Rule K) where
  pub figures_length : (ms : List ℕ) (xs : List K) → length (figures_on c ms xs) ≡ length xs
  figures_length [] xs = refl
  figures_length (m ∷ ms) [] = refl
  figures_length (m ∷ ms) (x ∷ xs) = ap suc (figures_length ms xs)

  pub figure_at : (ms : List ℕ) (xs : List K) (i : ℕ) (x d : K) → i < length ms → i < length xs → x ≡ get_or xs i x → get_or (figures_on c ms xs) i d ≡ cond (is_plain (mark_of (get_or ms i 0))) (c.on x) x
  figure_at [] xs i x d h j e = absurd (omega arith)
  figure_at (m ∷ ms) [] i x d h j e = absurd (omega arith)
  figure_at (m ∷ ms) (y ∷ xs) zero x d h j e = ap (λ z. cond (is_plain (mark_of m)) (c.on z) z) (sym e)
  figure_at (m ∷ ms) (y ∷ xs) (suc i) x d h j e = figure_at ms xs i x d (omega arith) (omega arith) e
