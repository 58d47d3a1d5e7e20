use Rattle.std.proofs.Common.{◌≡◌, Some, reverse}
use Rattle.std.specs.Prelude.{slice_get}
use Rattle.stil_ast.specs.Faults.Found.{first_in}
use Rattle.stil_ast.specs.Faults.BurstFaults.{unknown_fault, mentions}
use Rattle.stil_ast.specs.declared.executive.Burst.{Burst}
use Rattle.pattern_order.specs.Walks.{Knows, first_ahead, to_go}
use Rattle.pattern_order.proofs.checking.check_all_known.Given as goal

abbrev pub invariant-loop-frame : goal.invariant-loop-frame
invariant-loop-frame l =
    (l.walk.names.now ≡ l.names) × Knows l.names l.walk.marks.items (reverse l.walk.frames.items)
    × ((b : Burst) → slice_get l.names.bursts l.number ≡ Some b
    → first_ahead unknown_fault l.names (reverse l.walk.frames.items) ≡ first_in unknown_fault (mentions l.names (Some b)))

abbrev pub decreases-loop-frame : goal.decreases-loop-frame
decreases-loop-frame l = to_go l.names (reverse l.walk.frames.items)
