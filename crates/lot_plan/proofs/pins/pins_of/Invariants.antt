use Rattle.std.proofs.Common.{◌≡◌, ◌++◌, map, drop}
use Rattle.lot_plan.specs.Needs.{needs_of}
use Rattle.lot_plan.specs.Views.{needed_by}
use Rattle.lot_plan.proofs.pins.pins_of.Given as goal

abbrev pub invariant-loop-signal : goal.invariant-loop-signal
invariant-loop-signal l = map needed_by l.pins.items ++ needs_of l.rows (drop l.signal-index l.signals) ≡ needs_of l.rows
    l.signals
