use Rattle.std.proofs.Common.{◌≡◌}
use Rattle.packed_code.specs.Walk.{IsOver}
use Rattle.pattern_mem.specs.Cursor.{IsCursorOf}
use Rattle.tests_code.proofs.memory_tests.alike.Given as goal

abbrev pub invariant-loop-count : goal.invariant-loop-count
invariant-loop-count g l = record {
  cursor : IsCursorOf l.mem.code l.cursor;
  place : IsOver l.mem.code l.place;
  pass : l.pass ≡ l.initial.pass;
}
