use Rattle.std.proofs.Common.{◌≡◌, map, take}
use Rattle.stil_ast.specs.Meaning.Signals.{Names}
use Rattle.signal_groups.specs.Table.{table_of}
use Rattle.cycle_comp.specs.Compiled.{signal_of}
use Rattle.cycle_comp.proofs.signals.signal_list.Given as goal

abbrev pub invariant-loop-signal : goal.invariant-loop-signal
invariant-loop-signal l =
    (names : Names) → l.signals ≡ table_of names → l.list.items ≡ map signal_of (take l.signal names.signals)
