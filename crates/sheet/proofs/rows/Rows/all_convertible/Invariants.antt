use Rattle.std.proofs.Common.{◌≡◌, length}
use Rattle.ledger.specs.Rules.{row_by_row, on_all_rule, convertible}
use Rattle.sheet.specs.Sheets.{rows_of}
use Rattle.sheet.proofs.rows.Rows.all_convertible.Given as goal

abbrev pub invariant-loop-row : goal.invariant-loop-row
invariant-loop-row g l =
    let k = g.K.Kind.means in
    let rule = g.C.Conversion.rule l.c in
    let ms = l.row-iterator.iter.a.rest.now in
    let xs = l.row-iterator.iter.b.rest.now in
    record {
      paired : length xs ≡ length ms;
      rest : row_by_row (convertible k rule) l.row-iterator.count (rows_of ms xs) tt ≡ on_all_rule k rule (rows_of l.self.marks.now l.self.figures.now);
    }
