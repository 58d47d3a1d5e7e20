use Rattle.std.proofs.Common.{◌≤◌, length, drop}
use Rattle.log_parts.specs.Step.{AreEnds}
use Rattle.log_parts.proofs.fails.is_from_cycle.Given as goal

abbrev pub invariant-loop-at : goal.invariant-loop-at
invariant-loop-at l = (l.at ≤ length l.words) × AreEnds (drop l.at l.words) l.ends

abbrev pub decreases-loop-at : goal.decreases-loop-at
decreases-loop-at l = l.at
