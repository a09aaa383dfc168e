use Rattle.std.proofs.Common.{rules, subst}
use Rattle.std.proofs.lemmas.Fn.{fold_over, fronts, slice_gives}
use Rattle.std.specs.List.{AllByRecursion}
use Rattle.week.specs.Weeks.{FitsIn}
use Rattle.week.proofs.Listing.{fits_more}
use Rattle.week.proofs.run.longest.Goals as goal

pub returns : goal.returns
returns g c =
    subst (λ l. AllByRecursion (FitsIn c.fold.result.0 c.fold.result.1) l) c.iter.ensures.rest
    (fold_over fronts (λ y. y.now) _ (λ ys a. AllByRecursion (FitsIn a.0 a.1) ys) _
    (λ ys a x b f j k. (fits_more a.0 a.1 b.0 b.1 ys x.now (search rules) (search rules) (search rules, search rules) j, search rules))
    _ _ _ _ (slice_gives c.iter.result) tt c.fold.ensures.ran)
