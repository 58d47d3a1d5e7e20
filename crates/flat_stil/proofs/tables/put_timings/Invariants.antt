use Rattle.std.proofs.Common.{◌≡◌}
use Rattle.std.specs.List.{flat_map, range_with_len}
use Rattle.flat_parts.specs.FlatText.{timing_lines}
use Rattle.flat_stil.specs.Working.{prints}
use Rattle.flat_stil.proofs.tables.put_timings.Given as goal

abbrev pub invariant-loop-exec : goal.invariant-loop-exec
invariant-loop-exec l = l.sheet ≡ prints l.fn.sheet (flat_map (timing_lines l.code) (range_with_len 0 l.exec))
