use Rattle.std.proofs.Common.{◌<◌, cond, map, length, sym, ap, ◌∙◌, arith}
use lib.ListN.{length-map}
use Rattle.std.proofs.lemmas.List.{get_or-map}
use Rattle.ledger.specs.Marks.{is_plain, mark_of}
use Rattle.sheet.specs.Sheets.{mark_on, figures_on}
use Rattle.sheet.proofs.Filling.{filled_more, filled_end, still}
use Rattle.sheet.proofs.Turning.{number_at, figures_length, figure_at}
use Rattle.sheet.proofs.every.turn_all.Goals as goal

pub turned_row-requires : goal.turned_row-requires
turned_row-requires g c p =
    let k = g.C.Figure.Kind.means in
    let rule = g.C.Conversion.rule c.args.c.now in
    let ms = c.args.marks.now in
    let xs = c.args.figures.now in
    let i = c.loop-row.row in
    let x = c.index-figures-row.result in
    let mark = still c.loop-row.marks (map mark_on ms) ms i 0 c.loop-row.invariant.0 (length-map ms mark_on) in
    let figure = c.index-figures-row.is ∙ still c.loop-row.figures (figures_on rule ms xs) xs i x c.loop-row.invariant.1 (figures_length rule ms xs) in
    number_at k rule ms xs 0 i x c.requires.convertible c.loop-row-test.true c.requires.lengths figure (ap (λ m. is_plain (mark_of m)) (sym mark) ∙ p)

pub loop-row-preserved : goal.loop-row-preserved
loop-row-preserved g c =
    let rule = g.C.Conversion.rule c.args.c.now in
    let ms = c.args.marks.now in
    let xs = c.args.figures.now in
    let i = c.loop-row.row in
    let x = c.index-figures-row.result in
    let byte = c.turned_row.result.0 in
    let y = c.turned_row.result.1 in
    let h : i < length ms = c.loop-row-test.true in
    let lengths = c.requires.lengths in
    let j : i < length xs = omega arith in
    let long = length-map ms mark_on in
    let mark = still c.loop-row.marks (map mark_on ms) ms i 0 c.loop-row.invariant.0 long in
    let figure = c.index-figures-row.is ∙ still c.loop-row.figures (figures_on rule ms xs) xs i x c.loop-row.invariant.1 (figures_length rule ms xs) in
    let all = figures_length rule ms xs in (
      filled_more c.loop-row.marks (map mark_on ms) ms i byte c.loop-row.invariant.0 (omega arith) long
          (c.turned_row.ensures.mark ∙ ap mark_on mark ∙ sym (get_or-map mark_on ms i 0 byte h)),
      filled_more c.loop-row.figures (figures_on rule ms xs) xs i y c.loop-row.invariant.1 (omega arith) all
          (c.turned_row.ensures.figure ∙ ap (λ m. cond (is_plain (mark_of m)) (rule.on x) x) mark ∙ sym (figure_at rule ms xs i x y h j figure)),
    )

pub returns-clause-figures : goal.returns-clause-figures
returns-clause-figures g c =
    let rule = g.C.Conversion.rule c.args.c.now in
    let ms = c.args.marks.now in
    let xs = c.args.figures.now in
    let done = c.loop-row-test.false in
    let lengths = c.requires.lengths in
    let all = figures_length rule ms xs in
    filled_end c.loop-row.figures (figures_on rule ms xs) xs c.loop-row.row c.loop-row.invariant.1 (omega arith) (omega arith)
