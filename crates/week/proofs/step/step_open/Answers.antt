use Rattle.std.proofs.Common.{rules}
use Rattle.week.proofs.step.step_open.Goals as goal
use Rattle.week.proofs.step.step_open.Goals.{in-Enter, in-On, in-OnAll, in-Back, in-Clear, in-Read, in-Reopen}

pub returns : goal.returns
returns g c =
    elim c.match-call.branch [
      | in-Enter w ↦ search rules
      | in-On w ↦ search rules
      | in-OnAll w ↦ search rules
      | in-Back w ↦ search rules
      | in-Clear w ↦ search rules
      | in-Read w ↦ search rules
      | in-Reopen w ↦ search rules
    ]
