use Rattle.std.proofs.Common.{sym, subst}
use Rattle.week.specs.Weeks.{Stepped}
use Rattle.week.proofs.step.step.Goals as goal

pub returns-in-Closed : goal.returns-in-Closed
returns-in-Closed g c =
    let k = g.C.Figure.Kind.means in
    let rule = g.C.Conversion.rule c.args.c.now in
    let ms = c.args.marks.now in
    let xs = c.args.figures.now in
    subst (λ s. Stepped k rule s ms xs c.args.call.now c.step_closed.result.0 ms xs c.step_closed.result.1) (sym c.in-Closed.is) (c.step_closed.ensures rule)
