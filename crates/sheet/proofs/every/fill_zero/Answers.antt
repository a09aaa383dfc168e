use Rattle.std.proofs.Common.{◌≡◌, List, [], ◌∷◌, ◌++◌, length, replicate, rules, refl, ap, ◌∙◌, arith}
use Rattle.std.proofs.lemmas.Fn.{chained_keeps}
use Rattle.std.proofs.lemmas.Grind.{common_steps}
use Rattle.sheet.proofs.every.fill_zero.Goals as goal

pushed : {K : Type 0} (xs : List K) (x z : K) → xs ≡ replicate (length xs) z → x ≡ z → xs ++ x ∷ [] ≡ replicate (length (xs ++ x ∷ [])) z
pushed xs x z e h = grind (arith, common_steps)

-- every call gives zero
pub returns : goal.returns
returns g c =
    let z = g.K.Kind.means.nought in
    let h = chained_keeps _ (λ xs f. (xs ≡ replicate (length xs) z) × (f.0.now ≡ z)) (λ xs q x v i s. (pushed xs x z i.0 (search rules), search rules)) c.fill_with.new.self _ _ (refl, c.zero-zero.ensures) c.fill_with.ensures.ran.1 in
    h.0 ∙ ap (λ n. replicate n z) c.fill_with.ensures.len
