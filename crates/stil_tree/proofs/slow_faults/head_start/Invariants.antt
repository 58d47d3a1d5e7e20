use Rattle.std.proofs.Common.{◌≡◌, ◌+◌, drop}
use Rattle.stil_tree.specs.SlowFaults.{head_start}
use Rattle.stil_tree.proofs.slow_faults.head_start.Given as goal

abbrev pub invariant-loop-start : goal.invariant-loop-start
invariant-loop-start l = l.start + head_start (drop l.start l.tokens) ≡ head_start l.tokens
