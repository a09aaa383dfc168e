use Rattle.std.proofs.Common.{arith}
use Rattle.std.proofs.lemmas.Grind.{common_steps}
use Rattle.sheet.proofs.Means.{count_rows}
use Rattle.sheet.proofs.rows.Rows.some_turned.Goals as goal

pub returns : goal.returns
returns g c = rw (count_rows c.args.self.now.marks.now c.args.self.now.figures.now c.args.self.now.paired) (grind (arith, common_steps))
