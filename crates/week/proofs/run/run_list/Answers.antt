use Rattle.std.proofs.Common.{◌≡◌, ◌+◌, ◌<◌, cond, [], ◌∷◌, ◌++◌, map, drop, vec_items, vec_len, vec_capacity, ap, ◌∙◌, arith}
use Rattle.std.proofs.lemmas.List.{map_push}
use Rattle.ledger.specs.Ledgers.{replies}
use Rattle.week.specs.Weeks.{size, seen, replied, sheet_step}
use Rattle.week.proofs.Listing.{run_next, replies_next}
use Rattle.week.proofs.run.run_list.Goals as goal

pub loop-listed-preserved : goal.loop-listed-preserved
loop-listed-preserved g c =
    let k = g.C.Figure.Kind.means in
    let rule = g.C.Conversion.rule c.args.c.now in
    let step = sheet_step k rule (size c.args.sheet) in
    let calls = c.args.calls.now in
    let i = c.loop-listed.listed-index in
    let q = c.listed-item.result in
    let now = seen c.loop-listed.sheet c.loop-listed.marks c.loop-listed.figures in
    let inv = c.loop-listed.invariant in
    let next = c.step_listed-next in
    let later = seen next.result.0 next.new.marks next.new.figures in
    let p = next.ensures.step in
    let a = next.result.1 in
    let old = vec_items c.loop-listed.answers in
    let taken = c.loop-listed-test.true in
    let len = inv.one_each in
    let cap = inv.room in
    let room : vec_len c.loop-listed.answers < vec_capacity c.loop-listed.answers = omega arith in
    let pushed = c.push.ensures.succeeds room in
    let items : vec_items c.push.new.self ≡ old ++ (a ∷ []) = c.push.ensures.items ∙ ap (λ b. cond b (old ++ (a ∷ [])) old) pushed in
    let longer : vec_len c.push.new.self ≡ vec_len c.loop-listed.answers + 1 = c.push.ensures.len ∙ ap (λ b. cond b (vec_len c.loop-listed.answers + 1) (vec_len c.loop-listed.answers)) pushed in
    let kept = c.push.ensures.capacity in
    let after = p.after ∙ ap (λ m. (sheet_step k rule m now q).after) inv.same_size in
    let answer = p.answer ∙ ap (λ m. (sheet_step k rule m now q).answer) inv.same_size in
    record {
      within = omega arith;
      one_each = omega arith;
      room = omega arith;
      same_size = p.same_size ∙ inv.same_size;
      other_marks = next.ensures.other_marks ∙ inv.other_marks;
      other_figures = next.ensures.other_figures ∙ inv.other_figures;
      after = run_next step calls i q taken c.listed-item.is now later after ∙ inv.after;
      answers =
          ap (λ l. map replied l ++ replies step later (drop (i + 1) calls)) items
          ∙ ap (λ l. l ++ replies step later (drop (i + 1) calls)) (map_push replied old a)
          ∙ replies_next step calls i q taken c.listed-item.is now later after (replied a) answer (map replied old)
          ∙ inv.answers;
    }
