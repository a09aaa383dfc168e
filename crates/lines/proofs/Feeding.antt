-- An input that is fed byte by byte has the replies to its lines printed, and is cut rightly.
use Rattle.std.proofs.Common.{◌≡◌, ℕ, ◌<◌, Bool, true, false, cond, eqb, List, [], ◌∷◌, ◌++◌, length, take, Some, None, sym, refl, ap, ◌∙◌, inl, inr, arith}
use Rattle.std.proofs.lemmas.List.{append-nil, append_assoc, take_all, length-append, length-take-le}
use Rattle.std.proofs.lemmas.Bool.{cases_lt, eqb-true, eqb-false}
use Rattle.std.specs.List.{flat_map, AllByRecursion}
use Rattle.lines.specs.Replies.{reply_to, answer_to}
use Rattle.lines.specs.Cutting.{on_first, lines_of, ended, bytes_of, fed, FedRight, CutRight, reply_at_end}
use Rattle.lines.proofs.Reading.{too_long}

-- what follows the 33rd byte of a line does not change its reply
long_reply : (xs ys : List ℕ) → 32 < length xs → 32 < length ys → reply_to xs ≡ reply_to ys
unfolding reply_to
long_reply xs ys h k = ap (λ q. answer_to q ++ (10 ∷ [])) (too_long xs h ∙ sym (too_long ys k))

cut_reply : (xs ys : List ℕ) → reply_to (take 33 xs ++ ys) ≡ reply_to (xs ++ ys)
cut_reply xs ys = elim (cases_lt 33 (length xs)) [
  | inl long ↦
      long_reply (take 33 xs ++ ys) (xs ++ ys)
      (omega (arith, length-append (take 33 xs) ys, length-take-le 33 xs (omega arith)))
      (omega (arith, length-append xs ys))
  | inr short ↦ ap (λ l. reply_to (l ++ ys)) (take_all 33 xs short)
]

-- the lines of an input before which a line has begun
abbrev alone : List ℕ → List (List ℕ)
alone [] = []
alone (b ∷ bs) = (b ∷ bs) ∷ []

abbrev continued : List ℕ → List (List ℕ) → List (List ℕ)
continued line [] = alone line
continued line (next ∷ lines) = (line ++ next) ∷ lines

fresh : (lines : List (List ℕ)) → flat_map reply_to lines ≡ flat_map reply_to (continued [] lines)
fresh [] = refl
fresh (line ∷ lines) = refl

more : (line : List ℕ) (b : ℕ) (lines : List (List ℕ))
    → flat_map reply_to (continued (take 33 (line ++ b ∷ [])) lines) ≡ flat_map reply_to (continued line (on_first b lines))
more [] b [] = refl
more (a ∷ line) b [] =
    ap (λ l. l ++ [])
    (ap reply_to (sym (append-nil (a ∷ take 32 (line ++ b ∷ []))))
    ∙ (cut_reply (a ∷ line ++ b ∷ []) [] ∙ ap reply_to (append-nil (a ∷ line ++ b ∷ []))))
more line b (next ∷ lines) =
    ap (λ l. l ++ flat_map reply_to lines)
    (cut_reply (line ++ b ∷ []) next ∙ ap reply_to (append_assoc line (b ∷ []) next))

at_end : (line : List ℕ) → bytes_of (reply_at_end line) ≡ flat_map reply_to (alone line)
at_end [] = refl
at_end (b ∷ bs) = sym (append-nil (reply_to (b ∷ bs)))

at_byte : (t : Bool) (line bs : List ℕ) (b : ℕ)
    → ((begun : List ℕ) → fed begun bs ≡ flat_map reply_to (continued begun (lines_of bs)))
    → bytes_of (cond t (Some (reply_to line)) None) ++ fed (cond t [] (take 33 (line ++ b ∷ []))) bs
    ≡ flat_map reply_to (continued line (cond t ([] ∷ lines_of bs) (on_first b (lines_of bs))))
at_byte true line bs b rest =
    ap (λ l. reply_to line ++ l) (rest [] ∙ sym (fresh (lines_of bs)))
    ∙ ap (λ l. reply_to l ++ flat_map reply_to (lines_of bs)) (sym (append-nil line))
at_byte false line bs b rest = rest (take 33 (line ++ b ∷ [])) ∙ more line b (lines_of bs)

fed_is : (bs line : List ℕ) → fed line bs ≡ flat_map reply_to (continued line (lines_of bs))
fed_is [] line = at_end line
fed_is (b ∷ bs) line = at_byte (eqb b 10) line bs b (fed_is bs)

pub fed_right : FedRight
fed_right input = fed_is input [] ∙ sym (fresh (lines_of input))

-- no line has a line feed
abbrev Plain : List ℕ → Type 0
Plain line = AllByRecursion (λ b. b ≡ 10 → ⊥) line

plain_first : (b : ℕ) (lines : List (List ℕ)) → (b ≡ 10 → ⊥) → AllByRecursion Plain lines → AllByRecursion Plain (on_first b lines)
plain_first b [] h all = ((h, tt), tt)
plain_first b (line ∷ lines) h all = ((h, all.0), all.1)

plain_at : (b : ℕ) (t : Bool) (lines : List (List ℕ)) → eqb b 10 ≡ t → AllByRecursion Plain lines → AllByRecursion Plain (cond t ([] ∷ lines) (on_first b lines))
plain_at b true lines e all = (tt, all)
plain_at b false lines e all = plain_first b lines (eqb-false b 10 e) all

plain : (input : List ℕ) → AllByRecursion Plain (lines_of input)
plain [] = tt
plain (b ∷ bs) = plain_at b (eqb b 10) (lines_of bs) refl (plain bs)

-- the lines make up the input
abbrev rejoined : List (List ℕ) → List ℕ
rejoined lines = flat_map (λ line. line ++ 10 ∷ []) lines

rejoin_at : (b c : ℕ) (t u : Bool) (lines : List (List ℕ)) (bs : List ℕ) → eqb b 10 ≡ t
    → rejoined (cond u ([] ∷ lines) (on_first c lines)) ≡ bs
    → rejoined (cond t ([] ∷ cond u ([] ∷ lines) (on_first c lines)) (on_first b (cond u ([] ∷ lines) (on_first c lines)))) ≡ b ∷ bs
rejoin_at b c true u lines bs e h = ap (λ l. 10 ∷ l) h ∙ ap (λ x. x ∷ bs) (sym (eqb-true b 10 e))
rejoin_at b c false true lines bs e h = ap (λ l. b ∷ l) h
rejoin_at b c false false [] bs e h = ap (λ l. b ∷ l) h
rejoin_at b c false false (line ∷ lines) bs e h = ap (λ l. b ∷ l) h

rejoin_last : (b : ℕ) (t : Bool) → eqb b 10 ≡ t → rejoined (cond t ([] ∷ []) (on_first b [])) ≡ cond t (b ∷ []) (b ∷ 10 ∷ [])
rejoin_last b true e = ap (λ x. x ∷ []) (sym (eqb-true b 10 e))
rejoin_last b false e = refl

whole : (input : List ℕ) → rejoined (lines_of input) ≡ ended input
whole [] = refl
whole (b ∷ []) = rejoin_last b (eqb b 10) refl
whole (b ∷ c ∷ bs) = rejoin_at b c (eqb b 10) (eqb c 10) (lines_of bs) (ended (c ∷ bs)) refl (whole (c ∷ bs))

pub cut_right : CutRight
cut_right input = record { plain = plain input; whole = whole input }
