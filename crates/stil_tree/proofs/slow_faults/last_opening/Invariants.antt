use Rattle.std.proofs.Common.{◌≡◌}
use Rattle.stil_tree.specs.SlowFaults.{last_opening}
use Rattle.stil_tree.proofs.slow_faults.last_opening.Given as goal

abbrev pub invariant-loop-index : goal.invariant-loop-index
invariant-loop-index l = l.place ≡ last_opening l.braces l.tokens l.index
