-- The law of a reply.
use Rattle.std.proofs.Common.{◌≡◌, ℕ, ◌≤◌, Bool, true, false, cond, eqb, leb, List, [], ◌∷◌, ◌++◌, length, Ok, Err, Result, refl, ap, ◌∙◌, subst}
use Rattle.std.proofs.lemmas.Slice.Eq.{bytes_eq-Decides}
use Rattle.std.proofs.lemmas.Bool.{and_parts, and_from, eq-eqb, eqb-true, leb-true}
use Rattle.std.specs.Option.{ok_or}
use Rattle.lines.specs.declared.function.Function.{Function}
use Rattle.lines.specs.declared.refusal.Refusal.{Refusal}
use Rattle.lines.specs.declared.refusal.Refusal.TheVariants.{Malformed}
use Rattle.lines.specs.Digits.{all_digits, spelled}
use Rattle.lines.specs.Functions.{functions, name_of, places_of, result_at}
use Rattle.lines.specs.Laws.{WellFormed, Answers, Fitting}
use Rattle.lines.specs.Replies.{Asked, line_for, takes, question_for, behind_name, is_for, question_among, question_in, answer_to, reply_to}
use Rattle.lines.proofs.Names.{one_letter, found_so}
use Rattle.lines.proofs.Reading.{asked, named}
use Rattle.lines.proofs.Spelling.{length_written, all_written, read_back}

-- a well-formed line asks what it should
asks_so : (f : Function) (digits line : List ℕ) → WellFormed f digits line
    → question_in line ≡ Ok (record { function = f; bits = spelled digits })
asks_so f digits line w =
    ap (λ l. question_in l) w.parts
    ∙ (named (name_of f) digits (one_letter f) (subst (λ (l : List ℕ). length l ≤ 32) w.parts w.short)
    ∙ (ap (λ o. asked (ok_or o Malformed) digits) (found_so f)
    ∙ ap (λ t. cond t (Ok (record { function = f; bits = spelled digits })) (Err Malformed))
    (and_from (eqb (length digits) (places_of f)) (all_digits digits) (eq-eqb (length digits) (places_of f) w.count) w.hexadecimal)))

-- a line that asks something is well formed
abbrev Formed : List ℕ → Type 0
Formed line = (f : Function) × (digits : List ℕ) × WellFormed f digits line

module _ (line : List ℕ) (q : Asked) (short : length line ≤ 32) where
  formed_for : (f : Function) (t : Bool) → takes f (behind_name f line) ≡ t → is_for f line ≡ true
      → cond t (Ok (record { function = f; bits = spelled (behind_name f line) })) (Err Malformed) ≡ Ok q
      → Formed line
  formed_for f true e is h =
      let both = and_parts (eqb (length (behind_name f line)) (places_of f)) (all_digits (behind_name f line)) e in (
        f,
        behind_name f line,
        record {
          parts = (bytes_eq-Decides line (line_for f (behind_name f line))).0 is;
          count = eqb-true (length (behind_name f line)) (places_of f) both.0;
          hexadecimal = both.1;
          short = short;
        },
      )
  formed_for f false e is h = absurd cc

  formed_at : (f : Function) (fs : List Function) (t : Bool) → is_for f line ≡ t → (question_among fs line ≡ Ok q → Formed line)
      → cond t (question_for f (behind_name f line)) (question_among fs line) ≡ Ok q
      → Formed line
  formed_at f fs true e rest h = formed_for f (takes f (behind_name f line)) refl e h
  formed_at f fs false e rest h = rest h

  formed_among : (fs : List Function) → question_among fs line ≡ Ok q → Formed line
  formed_among [] h = absurd cc
  formed_among (f ∷ fs) h = formed_at f fs (is_for f line) refl (formed_among fs) h

formed_if : (line : List ℕ) (q : Asked) (t : Bool) → leb (length line) 32 ≡ t
    → cond t (question_among functions line) (Err Malformed) ≡ Ok q
    → Formed line
formed_if line q true e h = formed_among line q (leb-true (length line) 32 e) functions h
formed_if line q false e h = absurd cc

formed : (line : List ℕ) (q : Asked) → question_in line ≡ Ok q → Formed line
unfolding question_in
formed line q h = formed_if line q (leb (length line) 32) refl h

refused_at : (line : List ℕ) (Asked-is : Result Asked Refusal) → question_in line ≡ Asked-is
    → ((f : Function) (digits : List ℕ) → WellFormed f digits line → ⊥)
    → answer_to Asked-is ++ (10 ∷ []) ≡ 63 ∷ 32 ∷ 49 ∷ 52 ∷ 10 ∷ []
refused_at line (Ok q) e none = let w = formed line q e in absurd (none w.0 w.1 w.2)
refused_at line (Err Malformed) e none = refl

pub answers : (line : List ℕ) → Fitting line → Answers line (reply_to line)
unfolding reply_to
answers line fitting = record {
  answered = λ f digits w. (
    answer_to (Ok (record { function = f; bits = spelled digits })),
    ap (λ q. answer_to q ++ (10 ∷ [])) (asks_so f digits line w),
    record {
      count = length_written (places_of f) (result_at f (spelled digits));
      hexadecimal = all_written (places_of f) (result_at f (spelled digits));
      value = read_back (places_of f) (result_at f (spelled digits)) (fitting (record { function = f; bits = spelled digits }) (asks_so f digits line w));
    },
  );
  refused = λ none. refused_at line (question_in line) refl none;
}
