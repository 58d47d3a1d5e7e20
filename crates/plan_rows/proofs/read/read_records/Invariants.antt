use Rattle.std.proofs.Common.{◌<◌}
use Rattle.plan_rows.specs.Inside.{IsBook}
use Rattle.plan_rows.proofs.GoingLemmas.{IsGoing}
use Rattle.plan_rows.proofs.read.read_records.Given as goal

abbrev pub invariant-loop-row : goal.invariant-loop-row
invariant-loop-row l = record {
  book : IsBook l.book;
  left : 0 < l.row-iterator.left;
  going : IsGoing l.fn.bytes l.row-iterator.rdr l.book.rows.items;
}
