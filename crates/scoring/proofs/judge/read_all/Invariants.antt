use Rattle.std.proofs.Common.{◌≡◌, ◌≤◌, map, length, drop, None}
use Rattle.week.specs.Weeks.{replied}
use Rattle.scoring.specs.Scores.{judgement}
use Rattle.scoring.proofs.judge.read_all.Given as goal

abbrev pub invariant-loop-i : goal.invariant-loop-i
invariant-loop-i g l = (l.i ≤ length l.answers) × (judgement 0 None None (map replied l.answers) ≡ judgement l.i l.so_far.total l.so_far.mean (map replied (drop l.i l.answers)))
