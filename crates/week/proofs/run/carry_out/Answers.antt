use Rattle.std.proofs.Common.{◌≤◌, length, sym, ap, ◌∙◌, subst}
use Rattle.ledger.specs.Ledgers.{run, replies}
use Rattle.week.specs.Weeks.{sheet_of, sheet_step}
use Rattle.week.proofs.Opening.{open_done}
use Rattle.week.proofs.Lawful.{law_stands}
use Rattle.week.proofs.run.carry_out.Goals as goal

pub run_list-sheet-requires-clause-rows : goal.run_list-sheet-requires-clause-rows
run_list-sheet-requires-clause-rows g c =
    let opened = open_done g.C.Figure.Kind.means c.args.marks.now c.args.figures.now c.open.new.marks c.open.new.figures c.in_ok-opened.opened c.in_ok-opened.ensures in
    c.open.auto.marks ∙ sym opened.rows

pub returns : goal.returns
returns g c =
    let k = g.C.Figure.Kind.means in
    let rule = g.C.Conversion.rule c.args.c.now in
    let ms = c.args.marks.now in
    let n = length ms in
    let calls = c.args.calls.now in
    let s = c.in_ok-opened.opened in
    let opened = open_done k ms c.args.figures.now c.open.new.marks c.open.new.figures s c.in_ok-opened.ensures in
    let few : n ≤ 4096 = subst (λ m. m ≤ 4096) opened.rows s.few.1 in
    let ran = c.run_list-sheet.ensures in (
      opened.taken,
      record {
        after = ran.after ∙ ap (λ m. run (sheet_step k rule m) (sheet_of _ c.open.new.marks c.open.new.figures) calls) opened.rows ∙ ap (λ z. run (sheet_step k rule n) z calls) opened.new;
        answered = ran.answers ∙ ap (λ m. replies (sheet_step k rule m) (sheet_of _ c.open.new.marks c.open.new.figures) calls) opened.rows ∙ ap (λ z. replies (sheet_step k rule n) z calls) opened.new;
        law = law_stands k rule g.met.C.Figure.Kind.lawful (g.met.C.Conversion.sound c.args.c.now) n few calls;
      },
    )
