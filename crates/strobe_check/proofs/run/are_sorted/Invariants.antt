use Rattle.std.proofs.Common.{drop}
use Rattle.strobe_check.specs.Step.{Ascends}
use Rattle.strobe_check.proofs.run.are_sorted.Given as goal

-- if the looks that are left ascend from the last signal on, all do
abbrev pub invariant-loop-signal : goal.invariant-loop-signal
invariant-loop-signal l = Ascends l.least (drop l.signal-index l.looks) → Ascends 0 l.looks
