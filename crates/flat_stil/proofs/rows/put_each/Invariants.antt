use Rattle.std.proofs.Common.{◌≡◌, map}
use Rattle.std.specs.List.{range_with_len}
use Rattle.flat_parts.specs.FlatText.{row_line}
use Rattle.flat_stil.specs.Working.{prints}
use Rattle.flat_stil.proofs.rows.put_each.Given as goal

abbrev pub invariant-loop-number : goal.invariant-loop-number
invariant-loop-number l = l.sheet ≡ prints l.fn.sheet (map (row_line l.code) (range_with_len 0 l.number))
