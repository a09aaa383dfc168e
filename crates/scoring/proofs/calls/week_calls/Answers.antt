use Rattle.std.proofs.Common.{◌++◌, length, ap, ◌∙◌}
use Rattle.scoring.specs.Scores.{settling}
use Rattle.scoring.proofs.Reading.{enters_each}
use Rattle.scoring.proofs.calls.week_calls.Goals as goal

pub returns : goal.returns
returns g c =
    let sent = c.args.sent.now in
    c.in_ok-add_settling.ensures ∙ ap (λ l. l ++ settling (length sent) c.args.limit) (c.in_ok-calls.ensures ∙ enters_each (length sent) 0 sent)
