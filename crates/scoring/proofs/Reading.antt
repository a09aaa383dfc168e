-- The calls that enter what was sent. Assumes nothing.
use Rattle.std.proofs.Common.{◌≡◌, ℕ, suc, List, [], ◌∷◌, ◌++◌, None, Some, Option, refl, ap, ◌∙◌, add-one}
use Rattle.std.specs.List.{filter_map, enumerate_from, cons_option}
use Rattle.scoring.specs.Scores.{enters_one, entered, enters}

-- the calls of the rows, one by one
pub enters_each : {K : Type 0} (n i : ℕ) (sent : List (Option K)) → filter_map (λ p. entered n p.0 p.1) (enumerate_from i sent) ≡ enters n i sent
enters_each {K} n i [] = refl
enters_each {K} n i (x ∷ sent) =
    ap (λ j. cons_option (entered n i x) (filter_map (λ p. entered n p.0 p.1) (enumerate_from j sent))) (add-one i)
    ∙ ap (λ l. cons_option (entered n i x) l) (enters_each n (suc i) sent)
    ∙ one x
  where
    one : (y : Option K) → cons_option (entered n i y) (enters n (suc i) sent) ≡ enters_one n i y ++ enters n (suc i) sent
    one None = refl
    one (Some z) = refl
