use Rattle.std.proofs.Common.{◌≡◌, ◌-◌, ◌<◌, [], length}
use Rattle.page_code.specs.Changes.{last_row}
use Rattle.page_code.specs.Fields.{items_at}
use Rattle.page_code.specs.Reading.{row_at}
use Rattle.page_code.proofs.read_rows.rows.Given as goal

abbrev pub invariant-loop : goal.invariant-loop
invariant-loop l = record {
  so_far : items_at (row_at l.version l.signals) (l.count - l.counter) l.rows l.rest
      ≡ items_at (row_at l.version l.signals) l.count [] l.bytes;
  width : 0 < length l.rows → length (last_row l.rows) ≡ l.signals;
}
