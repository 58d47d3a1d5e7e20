use Rattle.std.proofs.Common.{◌≡◌, take}
use Rattle.lot_plan.proofs.pins.signals_of.Given as goal

abbrev pub invariant-loop-number : goal.invariant-loop-number
invariant-loop-number l = l.signals.items ≡ take l.number l.code.signals
