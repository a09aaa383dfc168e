-- A line's name is its first byte, where a space follows it.
use Rattle.std.proofs.Common.{◌≡◌, ℕ, ◌+◌, ◌-◌, ◌<◌, ◌≤◌, Bool, true, false, cond, ◌&&◌, eqb, List, [], ◌∷◌, ◌++◌, length, get_or, take, drop, Some, Ok, Err, Option, Result, sym, refl, ap, ◌∙◌, arith}
use Rattle.std.proofs.lemmas.Slice.Eq.{bytes_eq-Decides}
use Rattle.std.proofs.lemmas.List.{take_all, take_rest, length_push}
use Rattle.std.proofs.lemmas.Bool.{le-leb, lt-leb}
use Rattle.std.specs.Option.{ok_or}
use Rattle.std.specs.Str.{bytes_eq}
use Rattle.lines.specs.declared.function.Function.{Function}
use Rattle.lines.specs.declared.refusal.Refusal.{Refusal}
use Rattle.lines.specs.declared.refusal.Refusal.TheVariants.{Malformed}
use Rattle.lines.specs.Functions.{functions, name_of, places_of, result_at, first_named}
use Rattle.lines.specs.Replies.{Asked, line_for, question_for, behind_name, question_among, question_in, answer_to}
use Rattle.lines.proofs.Names.{one_letter, at_most_16, different}
use Rattle.lines.proofs.Spelling.{length_written}

-- what a name asks by these digits
abbrev pub asked : Result Function Refusal → List ℕ → Result Asked Refusal
asked (Err refusal) digits = Err refusal
asked (Ok f) digits = question_for f digits

-- the function of a name
abbrev pub called : List Function → List ℕ → Result Function Refusal
called fs name = ok_or (first_named fs name) Malformed

-- a line that is not too long, and one that is
within : (line : List ℕ) → length line ≤ 32 → question_in line ≡ question_among functions line
unfolding question_in
within line short = ap (λ t. cond t (question_among functions line) (Err Malformed)) (le-leb (length line) 32 short)

pub too_long : (line : List ℕ) → 32 < length line → question_in line ≡ Err Malformed
unfolding question_in
too_long line h = ap (λ t. cond t (question_among functions line) (Err Malformed)) (lt-leb (length line) 32 h)

-- a name, a space and digits
module _ (letter : ℕ) (digits : List ℕ) where
  behind : (f : Function) → behind_name f (letter ∷ 32 ∷ digits) ≡ digits
  behind f = ap (λ n. drop (n + 1) (letter ∷ 32 ∷ digits)) (one_letter f)

  begins : (name : List ℕ) → length name ≡ 1 → bytes_eq (letter ∷ 32 ∷ digits) (name ++ (32 ∷ digits)) ≡ bytes_eq (letter ∷ []) name
  begins [] one = absurd (omega arith)
  begins (n ∷ []) one = ap (λ t. eqb letter n && t) ((bytes_eq-Decides digits digits).1 refl)
  begins (n ∷ m ∷ rest) one = absurd (omega arith)

  chosen : (t : Bool) (f : Function) (o : Option Function) (q : Result Asked Refusal) → q ≡ asked (ok_or o Malformed) digits
      → cond t (question_for f digits) q ≡ asked (ok_or (cond t (Some f) o) Malformed) digits
  chosen true f o q e = refl
  chosen false f o q e = e

  among : (fs : List Function) → question_among fs (letter ∷ 32 ∷ digits) ≡ asked (called fs (letter ∷ [])) digits
  among [] = refl
  among (f ∷ fs) =
      ap (λ d. cond (bytes_eq (letter ∷ 32 ∷ digits) (line_for f d)) (question_for f d) (question_among fs (letter ∷ 32 ∷ digits))) (behind f)
      ∙ (ap (λ t. cond t (question_for f digits) (question_among fs (letter ∷ 32 ∷ digits))) (begins (name_of f) (one_letter f))
      ∙ chosen (bytes_eq (letter ∷ []) (name_of f)) f (first_named fs (letter ∷ [])) _ (among fs))

-- a line that begins with a name of one letter
pub named : (name digits : List ℕ) → length name ≡ 1 → length (name ++ (32 ∷ digits)) ≤ 32
    → question_in (name ++ (32 ∷ digits)) ≡ asked (called functions name) digits
named [] digits one short = absurd (omega arith)
named (letter ∷ []) digits one short = within (letter ∷ 32 ∷ digits) short ∙ among letter digits functions
named (letter ∷ second ∷ rest) digits one short = absurd (omega arith)

-- a line with a space behind its first byte asks what the code makes of its parts
pub with_space : (line : List ℕ) (letter : ℕ) (f : Result Function Refusal) → length line ≤ 32 → 2 ≤ length line → get_or line 1 0 ≡ 32
    → letter ≡ get_or line 0 0
    → f ≡ called functions (letter ∷ [])
    → asked f (take (length line - 2) (drop 2 line)) ≡ question_in line
with_space [] letter f short two space e ef = absurd (omega arith)
with_space (a ∷ []) letter f short two space e ef = absurd (omega arith)
with_space (a ∷ b ∷ digits) letter f short two space e ef =
    ap (λ l. asked f l) (take_rest (a ∷ b ∷ digits) 2)
    ∙ (ap (λ o. asked o digits) (ef ∙ ap (λ l. called functions (l ∷ [])) e)
    ∙ sym (ap (λ x. question_in (a ∷ x ∷ digits)) space ∙ named (a ∷ []) digits refl short))

-- any other line
module _ (line : List ℕ) (other : 2 ≤ length line → get_or line 1 0 ≡ 32 → ⊥) where
  apart : (name rest : List ℕ) → length name ≡ 1 → line ≡ name ++ (32 ∷ rest) → ⊥
  apart [] rest one e = absurd (omega arith)
  apart (n ∷ []) rest one e = other (omega (arith, ap length e)) (ap (λ l. get_or l 1 0) e)
  apart (n ∷ m ∷ more) rest one e = absurd (omega arith)

  none : (fs : List Function) → question_among fs line ≡ Err Malformed
  none [] = refl
  none (f ∷ fs) =
      ap (λ t. cond t (question_for f (behind_name f line)) (question_among fs line))
      (different line (line_for f (behind_name f line)) (apart (name_of f) (behind_name f line) (one_letter f)))
      ∙ none fs

  pub without_space : length line ≤ 32 → question_in line ≡ Err Malformed
  without_space short = within line short ∙ none functions

-- an answer leaves room for the line feed
pub line_feed_fits : (q : Result Asked Refusal) → take 17 (answer_to q ++ (10 ∷ [])) ≡ answer_to q ++ (10 ∷ [])
line_feed_fits (Ok q) =
    take_all 17 (answer_to (Ok q) ++ (10 ∷ []))
    (omega (arith, length_push (answer_to (Ok q)) 10, length_written (places_of q.function) (result_at q.function q.bits), at_most_16 q.function))
line_feed_fits (Err Malformed) = refl
