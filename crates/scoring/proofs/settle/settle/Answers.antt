use Rattle.std.proofs.Common.{map, length, None, vec_items, ap, ◌∙◌, subst}
use Rattle.week.specs.Weeks.{replied, seen}
use Rattle.week.specs.Law.{Carried}
use Rattle.scoring.specs.Scores.{judgement}
use Rattle.scoring.proofs.settle.settle.Goals as goal

pub returns : goal.returns
returns g c =
    let k = g.C.Figure.Kind.means in
    let rule = g.C.Conversion.rule c.args.c.now in
    let week = c.in_ok-week.week in
    let n = length c.args.marks.now in
    let sheet = seen week.sheet c.carry_out.new.marks c.carry_out.new.figures in
    let calls = c.deref.ensures.value ∙ c.in_ok-calls.ensures in
    let done = c.in_ok-week.ensures in
    let carried = subst (λ l. Carried k rule n l sheet (map replied (vec_items week.answers))) calls done.1 in (
      done.0,
      record {
        verdict = c.judge.ensures ∙ ap (λ l. judgement 0 None None (map replied l)) c.deref-2.ensures.value ∙ ap (judgement 0 None None) carried.answered;
        marks = ap (λ s. s.slices.marks) carried.after;
        figures = ap (λ s. s.slices.figures) carried.after;
        law = carried.law;
      },
    )
