use Rattle.std.proofs.Common.{sym, ◌∙◌}
use Rattle.exponential.proofs.Reach.{left_reducible}
use Rattle.exponential.proofs.expm1.banded.Goals as goal

pub count-requires : goal.count-requires
count-requires g c =
    left_reducible g.F.Table.table g.met.F.Table.reduces (g.F.Float.float c.args.x) c.requires
    (sym c.is_sunk.ensures ∙ c.if-is_sunk.false) (sym c.is_over.ensures ∙ c.if-is_over.false)
