use Rattle.std.proofs.Common.{◌≡◌, ◌≤◌, length, take}
use Rattle.page_code.specs.Changes.{changes}
use Rattle.page_code.proofs.changes.count_changes.Given as goal

abbrev pub invariant-loop-signal : goal.invariant-loop-signal
invariant-loop-signal l = record {
  counted : l.count ≡ length (changes 0 (take l.signal l.last) (take l.signal l.row));
  few : l.count ≤ l.signal;
}
