use Rattle.std.proofs.Common.{◌≡◌}
use Rattle.std.specs.List.{flat_map, range_with_len}
use Rattle.flat_parts.specs.FlatText.{own_table}
use Rattle.flat_stil.specs.Working.{prints}
use Rattle.flat_stil.proofs.tables.put_own.Given as goal

abbrev pub invariant-loop-number : goal.invariant-loop-number
invariant-loop-number l =
    l.sheet ≡ prints l.fn.sheet (flat_map (own_table l.code l.exec) (range_with_len 0 l.number))
