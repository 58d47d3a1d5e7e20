use Rattle.std.proofs.Common.{◌≡◌, ◌+◌, ◌*◌, ◌≤◌, drop}
use Rattle.stil_ast.specs.Data.Items.{run_length}
use Rattle.macro_expand.proofs.giving.run_total.Given as goal

abbrev pub invariant-loop-run : goal.invariant-loop-run
invariant-loop-run l =
    (l.total + run_length (drop l.run-index l.runs) ≡ run_length l.fn.runs) × (l.total ≤ l.run-index * 4294967296)
