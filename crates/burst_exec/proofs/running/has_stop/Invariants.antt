use Rattle.std.proofs.Common.{◌≡◌, drop}
use Rattle.stil_ast.specs.Data.Bodies.{written_of}
use Rattle.burst_exec.specs.Patterns.{has_stop}
use Rattle.burst_exec.proofs.running.has_stop.Given as goal

abbrev pub invariant-loop-stmt : goal.invariant-loop-stmt
invariant-loop-stmt l = has_stop (written_of (drop l.stmt-index l.stmt-items)) ≡ has_stop l.body
