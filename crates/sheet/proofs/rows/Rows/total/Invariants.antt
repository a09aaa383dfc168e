use Rattle.std.proofs.Common.{◌≡◌, length}
use Rattle.ledger.specs.Rules.{row_by_row, total_rule, added}
use Rattle.sheet.specs.Sheets.{rows_of}
use Rattle.sheet.proofs.rows.Rows.total.Given as goal

abbrev pub invariant-loop-row : goal.invariant-loop-row
invariant-loop-row g l =
    let k = g.K.Kind.means in
    let ms = l.row-iterator.iter.a.rest.now in
    let xs = l.row-iterator.iter.b.rest.now in
    record {
      paired : length xs ≡ length ms;
      rest : row_by_row (added k) l.row-iterator.count (rows_of ms xs) l.sum ≡ total_rule k (rows_of l.self.marks.now l.self.figures.now);
    }
