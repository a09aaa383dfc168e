use Rattle.std.proofs.Common.{◌≡◌, ◌≤◌, ◌++◌, map, length, drop, vec_items, vec_len, vec_capacity}
use Rattle.ledger.specs.Ledgers.{run, replies}
use Rattle.week.specs.Weeks.{size, seen, replied, sheet_step}
use Rattle.week.proofs.run.run_list.Given as goal

abbrev pub invariant-loop-listed : goal.invariant-loop-listed
invariant-loop-listed g l =
    let step = sheet_step g.C.Figure.Kind.means (g.C.Conversion.rule l.c) (size l.initial.sheet) in
    let first = seen l.initial.sheet l.initial.marks l.initial.figures in
    let now = seen l.sheet l.marks l.figures in
    let rest = drop l.listed-index l.calls in
    record {
      within : l.listed-index ≤ length l.calls;
      one_each : vec_len l.answers ≡ l.listed-index;
      room : length l.calls ≤ vec_capacity l.answers;
      same_size : size l.sheet ≡ size l.initial.sheet;
      other_marks : length l.other.marks.now ≡ length l.initial.other.marks.now;
      other_figures : length l.other.figures.now ≡ length l.initial.other.figures.now;
      after : run step now rest ≡ run step first l.calls;
      answers : map replied (vec_items l.answers) ++ replies step now rest ≡ replies step first l.calls;
    }
