-- What the code gives for one answer.
use Rattle.std.specs.Prelude.{Ok, Err, Result}
use Rattle.scoring.specs.declared.judgement.Judgement.{Judgement}
use Rattle.scoring.specs.declared.judgement.Amounts.{Amounts}
use Rattle.scoring.specs.Scores.{Reading, goes_on, ends, judged}

abbrev pub reading : {K : Type 0} → Result (Amounts K) (Judgement K) → Reading K
reading (Ok amounts) = goes_on amounts.total amounts.mean
reading (Err end) = ends (judged end)
