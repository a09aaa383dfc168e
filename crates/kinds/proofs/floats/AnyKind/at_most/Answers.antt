use Rattle.std.proofs.Common.{rules, ◌≡◌, ap, ◌∙◌, Bool, true, false, cond, ◌||◌, Option, Ordering, Some, None, Less, Equal, Greater, refl}
use Rattle.std.specs.Ordering.{is_some_and, is_le, float_partial_cmp}
use Rattle.std.specs.Float.{Float}
use Rattle.std.specs.Float.Ieee.{le, lt, eq}
use Rattle.kinds.proofs.floats.AnyKind.at_most.Goals as goal

-- `<=` by the order of the floats is their `le`
le_is : (o : Option Ordering) (x y : Float) → o ≡ float_partial_cmp x y → is_some_and is_le o ≡ le x y
unfolding le
le_is o x y e = ap (is_some_and is_le) e ∙ cases (lt x y) (eq x y) (lt y x)
  where
    cases : (a b c : Bool) → is_some_and is_le (cond a (Some Less) (cond b (Some Equal) (cond c (Some Greater) None))) ≡ (a || b)
    cases true b c = refl
    cases false true c = refl
    cases false false true = refl
    cases false false false = refl

pub returns : goal.returns
returns g c = let same = le_is _ _ _ (g.met.F.Float.float_order_law c.args.self c.args.other) in search rules
