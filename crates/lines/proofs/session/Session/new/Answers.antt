use Rattle.lines.proofs.Feeding.{fed_right, cut_right}
use Rattle.lines.proofs.session.Session.new.Goals as goal

pub returns : goal.returns
returns c = record { value = c.empty.ensures; fed = fed_right; cut = cut_right }
