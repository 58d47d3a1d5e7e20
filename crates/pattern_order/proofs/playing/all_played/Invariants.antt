use Rattle.std.proofs.Common.{◌≡◌, ◌≤◌, ◌++◌, Some, length, reverse}
use Rattle.std.specs.Prelude.{slice_get}
use Rattle.std.specs.List.{flat_map}
use Rattle.stil_ast.specs.declared.executive.Burst.{Burst}
use Rattle.pattern_order.specs.Walk.{met, played_at, ahead_in}
use Rattle.pattern_order.specs.Held.{played_in}
use Rattle.pattern_order.specs.Walks.{Plays, to_go}
use Rattle.pattern_order.proofs.playing.all_played.Given as goal

abbrev pub invariant-loop-frame : goal.invariant-loop-frame
invariant-loop-frame l =
    (l.walk.names.now ≡ l.names) × (length l.patterns.items ≤ 4096)
    × Plays l.names (length (played_in l.patterns.items)) l.walk.marks.items (reverse l.walk.frames.items)
    × ((b : Burst) → slice_get l.names.bursts l.number ≡ Some b
    → played_in l.patterns.items ++ flat_map (played_at l.names) (ahead_in l.names (reverse l.walk.frames.items))
    ≡ flat_map (played_at l.names) (met l.names b))

abbrev pub decreases-loop-frame : goal.decreases-loop-frame
decreases-loop-frame l = to_go l.names (reverse l.walk.frames.items)
