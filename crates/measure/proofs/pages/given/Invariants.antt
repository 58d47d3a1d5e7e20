use Rattle.std.proofs.Common.{◌≡◌}
use Rattle.pattern_mem.specs.Cursor.{IsCursorOf}
use Rattle.measure.proofs.pages.given.Given as goal

abbrev pub invariant-loop : goal.invariant-loop
invariant-loop g l = IsCursorOf l.mem.code l.cursor × (l.pass ≡ l.initial.pass)
