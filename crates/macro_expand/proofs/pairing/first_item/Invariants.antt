use Rattle.std.proofs.Common.{◌≡◌, drop}
use Rattle.stil_ast.specs.Data.Items.{first_item}
use Rattle.macro_expand.proofs.pairing.first_item.Given as goal

abbrev pub invariant-loop-run : goal.invariant-loop-run
invariant-loop-run l = first_item (drop l.run-index l.runs) ≡ first_item l.fn.runs
