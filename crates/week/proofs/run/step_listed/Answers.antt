use Rattle.std.proofs.Common.{◌≡◌, ◌-◌, sym, ap, ◌∙◌, arith}
use Rattle.ledger.specs.Ledgers.{own}
use Rattle.week.proofs.Listing.{listed_other, marks_stay, figures_stay, zeros_stay}
use Rattle.week.proofs.run.step_listed.Goals as goal

pub returns-clause-step : goal.returns-clause-step
returns-clause-step g c =
    let k = g.C.Figure.Kind.means in
    let rule = g.C.Conversion.rule c.args.c.now in
    let s = c.args.sheet in
    let q = c.args.listed.now in
    let om = c.args.other.now.marks.now in
    let ox = c.args.other.now.figures.now in
    let p = c.step-2 in
    let em : q.marks - 0 ≡ q.marks = omega arith in
    let ef : q.figures - 0 ≡ q.figures = omega arith in
    let o = ap (λ n. own n q.marks q.figures) (sym c.requires.rows) ∙ sym c.brings_own.ensures ∙ c.if-brings_own.false in
    listed_other k rule s p.result.0 c.args.marks.now c.args.figures.now q p.result.1 om ox (q.marks - 0) (q.figures - 0) em ef c.requires.fits c.args.other.now.zero_marks c.args.other.now.zero_figures o p.new.marks p.new.figures p.ensures

pub invariant_of-other : goal.invariant_of-other
invariant_of-other g c =
    let k = g.C.Figure.Kind.means in
    let rule = g.C.Conversion.rule c.args.c.now in
    let s = c.args.sheet in
    let q = c.args.listed.now in
    let ms = c.args.marks.now in
    let xs = c.args.figures.now in
    let om = c.args.other.now.marks.now in
    let ox = c.args.other.now.figures.now in
    let p = c.step-2 in
    let t = p.result.0 in
    let a = p.result.1 in
    let m = q.marks - 0 in
    let f = q.figures - 0 in
    let em : q.marks - 0 ≡ q.marks = omega arith in
    let ef : q.figures - 0 ≡ q.figures = omega arith in
    let zm = c.args.other.now.zero_marks in
    let zf = c.args.other.now.zero_figures in
    let o = ap (λ n. own n q.marks q.figures) (sym c.requires.rows) ∙ sym c.brings_own.ensures ∙ c.if-brings_own.false in
    record {
      zero_marks = zeros_stay _ om 0 (marks_stay k rule s t ms xs q a om ox m f em ef c.requires.fits zm zf o p.new.marks p.new.figures p.ensures) zm;
      zero_figures = zeros_stay _ ox k.nought (figures_stay k rule s t ms xs q a om ox m f em ef c.requires.fits zm zf o p.new.marks p.new.figures p.ensures) zf;
    }
