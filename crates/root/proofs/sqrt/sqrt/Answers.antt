-- `sqrt` meets its contract: the standard library's root is the one defined, and that is the nearest value. Assumes nothing.
use Rattle.std.proofs.Common.{T, sym, ◌∙◌, subst}
use lib.Ieee.{binary64, Float, fits}
use Rattle.root.specs.Sqrt.{NearestRoot}
use Rattle.root.proofs.NearestRoot.{same_root, nearest_root}
use Rattle.root.proofs.sqrt.sqrt.Goals as goal

pub returns : goal.returns
returns c =
    let x = c.args.x in
    let F : T (fits binary64 x) = subst T (sym c.well_formed.0.1) tt in
    let e = c.rounded_root.ensures ∙ same_root binary64 x F in
    record { value = e; nearest = λ p. subst (λ (r : Float). NearestRoot binary64 x r) (sym e) (nearest_root binary64 x F p) }
