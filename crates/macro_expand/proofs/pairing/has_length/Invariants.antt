use Rattle.std.proofs.Common.{◌≡◌, drop, ◌+◌}
use Rattle.stil_ast.specs.Data.Items.{run_length}
use Rattle.macro_expand.proofs.pairing.has_length.Given as goal

abbrev pub invariant-loop-run : goal.invariant-loop-run
invariant-loop-run l = run_length l.fn.runs + l.left ≡ l.fn.count + run_length (drop l.run-index l.runs)
