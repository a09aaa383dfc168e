use Rattle.values.proofs.Annex.{annex_f}
use Rattle.values.proofs.Values.{values_stand}
use Rattle.values.proofs.known_values.Goals as goal

pub returns-clause-stand : goal.returns-clause-stand
returns-clause-stand c = values_stand

pub returns-clause-special : goal.returns-clause-special
returns-clause-special c = annex_f
