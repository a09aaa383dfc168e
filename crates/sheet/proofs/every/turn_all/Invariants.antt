use Rattle.std.proofs.Common.{◌≡◌, map}
use Rattle.sheet.specs.Sheets.{mark_on, figures_on}
use Rattle.sheet.proofs.Filling.{up_to}
use Rattle.sheet.proofs.every.turn_all.Given as goal

abbrev pub invariant-loop-row : goal.invariant-loop-row
invariant-loop-row g l =
    let ms = l.initial.marks in
    let xs = l.initial.figures in
    (l.marks ≡ up_to l.row (map mark_on ms) ms) × (l.figures ≡ up_to l.row (figures_on (g.C.Conversion.rule l.c) ms xs) xs)
