use Rattle.std.proofs.Common.{◌≡◌, map}
use Rattle.std.specs.List.{range_with_len}
use Rattle.flat_parts.specs.FlatText.{burst_line}
use Rattle.flat_stil.specs.Working.{prints}
use Rattle.flat_stil.proofs.patterns.put_bursts.Given as goal

abbrev pub invariant-loop-exec : goal.invariant-loop-exec
invariant-loop-exec l = l.sheet ≡ prints l.fn.sheet (map burst_line (range_with_len 0 l.exec))
