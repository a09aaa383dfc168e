use Rattle.std.proofs.Common.{◌≡◌, Ok, Err, Result, sym, ap, ◌∙◌}
use Rattle.std.proofs.lemmas.Result.{err_from_is_err_and}
use Rattle.refusals.specs.Refusals.{Told}
use Rattle.conversion.specs.declared.refusal.Refusal.TheVariants.{NotANumber}
use Rattle.ledger.specs.Rules.{and_then}
use Rattle.sheet.specs.declared.refusal.Refusal.{Refusal}
use Rattle.sheet.specs.Refusals.{told, answered}
use Rattle.sheet.proofs.rows.Rows.converted.Goals as goal

refused : {A B : Type 0} (next : A → Result B Told) (out : Result B Refusal) (y e : Refusal) (was : Result A Refusal) (rule : Result A Told) → out ≡ Err y → y ≡ e → was ≡ Err e → answered was ≡ rule → answered out ≡ and_then rule next
refused next out y e was rule o same w r = ap answered (o ∙ ap Err same) ∙ ap (λ z. and_then z next) (sym (ap answered w) ∙ r)

none_found : {A : Type 0} {P : Type 0} (x : A) (e : Refusal) (was : Result A Refusal) (rule : Result A Told) → was ≡ Err e → answered was ≡ rule → rule ≡ Ok x → P
none_found x e was rule w r found = let h : Err (told e) ≡ Ok x = sym (ap answered w) ∙ r ∙ found in absurd (cc)

-- a row that is refused before the conversion is called may be said to have any answer
pub returns-in_err-marked : goal.returns-in_err-marked
returns-in_err-marked g c =
    let p = err_from_is_err_and c.from_residual.result c.from_residual.ensures.1 in (
      Err NotANumber,
      (λ x found. none_found x c.in_err-marked.field-0.0 c.marked.result _ c.in_err-marked.was c.marked.ensures found),
      refused _ c.from_residual.result p.0 c.in_err-marked.field-0.0 c.marked.result _ p.1 p.2 c.in_err-marked.was c.marked.ensures,
    )
