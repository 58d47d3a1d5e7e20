use Rattle.std.proofs.Common.{◌≡◌, ◌-◌, ℕ, List, [], length}
use Rattle.page_code.specs.Changes.{with_changes, least_behind}
use Rattle.page_code.specs.Fields.{items_at}
use Rattle.page_code.specs.Reading.{change_at}
use Rattle.page_code.proofs.read_rows.changed.Given as goal

abbrev pub invariant-loop : goal.invariant-loop
invariant-loop l = record {
  made : (before : List (ℕ × ℕ)) × (items_at (change_at l.signals l.last) (l.count - l.counter) before l.rest
      ≡ items_at (change_at l.signals l.last) l.count [] l.bytes)
      × (l.row.items ≡ with_changes l.last before) × (l.least ≡ least_behind before);
  size : length l.row.items ≡ l.signals;
}
