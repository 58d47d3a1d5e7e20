use Rattle.std.proofs.Common.{◌≡◌, map, take}
use Rattle.flat_parts.specs.FlatText.{signal_line}
use Rattle.flat_stil.specs.Working.{prints}
use Rattle.flat_stil.proofs.signals.put_each.Given as goal

abbrev pub invariant-loop-signal : goal.invariant-loop-signal
invariant-loop-signal l = l.sheet ≡ prints l.fn.sheet (map signal_line (take l.signal-index l.signals))
