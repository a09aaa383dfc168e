-- A call of a list, with the sheet's own slices or with other memory. Assumes nothing.
use Rattle.std.proofs.Common.{◌≡◌, ℕ, zero, suc, ◌+◌, ◌<◌, ◌≤◌, Bool, false, cond, List, [], ◌∷◌, ◌++◌, length, get_or, take, drop, replicate, sym, ap, ◌∙◌, subst, arith, append_assoc, take-append-drop}
use lib.ListN.{length-replicate}
use Rattle.std.proofs.lemmas.List.{take-replicate, drop_more}
use Rattle.kinds.specs.Kinds.{Meaning}
use Rattle.conversion.specs.Conversions.{Rule}
use Rattle.ledger.specs.declared.call.Listed.{Listed}
use Rattle.ledger.specs.Ledgers.{own, Reply, Step, run, replies}
use Rattle.std.specs.List.{AllByRecursion}
use Rattle.week.specs.declared.answer.Answer.{Answer}
use Rattle.week.specs.declared.head.Sheet.{Sheet as Headed}
use Rattle.week.specs.Weeks.{Sheet, sheet_of, is_closed, seen, size, called_at, aside, Stepped, SteppedListed, FitsIn}
use Rattle.week.proofs.Showing.{other_stays}

module _ {K : Type 0} (k : Meaning K) (c : Rule K) (s t : Headed) (ms : List ℕ) (xs : List K) (q : Listed K) (a : Answer K) where
  abbrev other : Step (Sheet K) K
  other = called_at k c (size s) (sheet_of (is_closed s) (replicate q.marks 0) (replicate q.figures k.nought)) q.call

  abbrev chosen : Bool → Step (Sheet K) K
  chosen b = cond b (called_at k c (size s) (seen s ms xs) q.call) (aside k c (size s) (seen s ms xs) other)

  -- the front of other slices that hold zeros only; m and f are its lengths
  module _ (om : List ℕ) (ox : List K) (m f : ℕ) (em : m ≡ q.marks) (ef : f ≡ q.figures) (fits : FitsIn (length om) (length ox) q)
      (zero_marks : om ≡ replicate (length om) 0) (zero_figures : ox ≡ replicate (length ox) k.nought)
      (o : own (size s) q.marks q.figures ≡ false) (fm : List ℕ) (fx : List K) (p : Stepped k c s (take m om) (take f ox) q.call t fm fx a) where
    front_marks : take m om ≡ replicate q.marks 0
    front_marks = ap (λ z. take z om) em ∙ ap (take q.marks) zero_marks ∙ take-replicate q.marks (length om) 0 fits.0

    front_figures : take f ox ≡ replicate q.figures k.nought
    front_figures = ap (λ z. take z ox) ef ∙ ap (take q.figures) zero_figures ∙ take-replicate q.figures (length ox) k.nought fits.1

    there : Stepped k c s (replicate q.marks 0) (replicate q.figures k.nought) q.call t fm fx a
    there = subst (λ z. Stepped k c s (replicate q.marks 0) z q.call t fm fx a) front_figures (subst (λ z. Stepped k c s z (take f ox) q.call t fm fx a) front_marks p)

    pub listed_other : SteppedListed k c s ms xs q t ms xs a
    listed_other = record {
      same_size = p.same_size;
      after = ap (λ z. sheet_of z.closed ms xs) there.after ∙ ap (λ b. (chosen b).after) (sym o);
      answer = there.answer ∙ ap (λ b. (chosen b).answer) (sym o);
    }

    stays : seen t fm fx ≡ sheet_of (is_closed s) (replicate q.marks 0) (replicate q.figures k.nought)
    stays =
        there.after
        ∙ other_stays k c (size s) (is_closed s) (replicate q.marks 0) (replicate q.figures k.nought)
        (ap (λ z. own (size s) z (length (replicate q.figures k.nought))) (length-replicate q.marks 0) ∙ ap (own (size s) q.marks) (length-replicate q.figures k.nought) ∙ o) q.call

    pub marks_stay : fm ++ drop m om ≡ om
    marks_stay = ap (λ z. z ++ drop m om) (ap (λ z. z.slices.marks) stays ∙ sym front_marks) ∙ take-append-drop m om

    pub figures_stay : fx ++ drop f ox ≡ ox
    figures_stay = ap (λ z. z ++ drop f ox) (ap (λ z. z.slices.figures) stays ∙ sym front_figures) ∙ take-append-drop f ox

-- the next call of a list, and the calls that are left after it
module _ {S K : Type 0} (step : S → Listed K → Step S K) (calls : List (Listed K)) (i : ℕ) (q : Listed K) (h : i < length calls) (e : q ≡ get_or calls i q) (now later : S) (after : later ≡ (step now q).after) where
  abbrev rest : List (Listed K)
  rest = drop (i + 1) calls

  next_call : drop i calls ≡ q ∷ rest
  next_call = drop_more calls i q h ∙ ap (λ y. y ∷ rest) (sym e)

  pub run_next : run step later rest ≡ run step now (drop i calls)
  run_next = ap (λ s. run step s rest) after ∙ sym (ap (run step now) next_call)

  pub replies_next : (a : Reply K) → a ≡ (step now q).answer → (xs : List (Reply K)) → (xs ++ (a ∷ [])) ++ replies step later rest ≡ xs ++ replies step now (drop i calls)
  replies_next a f xs =
      append_assoc xs (a ∷ []) (replies step later rest)
      ∙ ap (λ l. xs ++ l) (ap (λ y. y ∷ replies step later rest) f ∙ ap (λ s. (step now q).answer ∷ replies step s rest) after ∙ sym (ap (replies step now) next_call))

-- the longest memory of a list
module _ {K : Type 0} where
  pub fits_at : (m f : ℕ) (calls : List (Listed K)) (i : ℕ) (q : Listed K) → AllByRecursion (FitsIn m f) calls → i < length calls → q ≡ get_or calls i q → FitsIn m f q
  fits_at m f [] i q all h e = absurd (omega arith)
  fits_at m f (p ∷ calls) zero q all h e = subst (FitsIn m f) (sym e) all.0
  fits_at m f (p ∷ calls) (suc i) q all h e = fits_at m f calls i q all.1 (omega arith) e

  pub fits_more : (m f m' f' : ℕ) (calls : List (Listed K)) (q : Listed K) → m ≤ m' → f ≤ f' → FitsIn m' f' q → AllByRecursion (FitsIn m f) calls → AllByRecursion (FitsIn m' f') (calls ++ (q ∷ []))
  fits_more m f m' f' [] q a b here all = (here, tt)
  fits_more m f m' f' (p ∷ calls) q a b here all = let h = all.0.0 in let g = all.0.1 in ((omega arith, omega arith), fits_more m f m' f' calls q a b here all.1)

-- a list that is equal to one of zeros
pub zeros_stay : {A : Type 0} (x l : List A) (z : A) → x ≡ l → l ≡ replicate (length l) z → x ≡ replicate (length x) z
zeros_stay x l z e h = subst (λ y. y ≡ replicate (length y) z) (sym e) h
