use Rattle.stil_tree.proofs.SlowFaults.{Stands}
use Rattle.stil_tree.proofs.slow_faults.slow_tree_fault.Given as goal

abbrev pub invariant-loop-at : goal.invariant-loop-at
invariant-loop-at l = Stands l.tokens l.at
