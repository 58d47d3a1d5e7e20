use Rattle.std.proofs.Common.{◌≡◌}
use Rattle.std.specs.List.{flat_map, range_with_len}
use Rattle.flat_parts.specs.FlatText.{signal_item}
use Rattle.flat_stil.specs.Working.{wrote}
use Rattle.flat_stil.proofs.rows.put_characters.Given as goal

abbrev pub invariant-loop-signal : goal.invariant-loop-signal
invariant-loop-signal l = l.sheet ≡ wrote l.fn.sheet (flat_map (signal_item l.code l.row) (range_with_len 0 l.signal))
