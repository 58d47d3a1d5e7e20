use Rattle.std.proofs.Common.{◌≡◌, ◌||◌, ℕ, List, drop}
use Rattle.std.specs.List.{list_any}
use Rattle.std.specs.Str.{bytes_eq}
use Rattle.bench_net.specs.Views.{texts}
use Rattle.lot_plan.specs.Needs.{has_name}
use Rattle.lot_plan.proofs.names.signal_names.Given as goal

abbrev pub invariant-loop-signal : goal.invariant-loop-signal
invariant-loop-signal l = (name : List ℕ) →
    (list_any (bytes_eq name) (texts l.names.keys) || list_any (has_name name) (drop l.signal-index l.signals))
    ≡ list_any (has_name name) l.signals
