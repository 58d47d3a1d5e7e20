use Rattle.std.proofs.Common.{ap, ◌∙◌}
use Rattle.std.specs.Prelude.{◌==◌}
use Rattle.stil_tree.proofs.Lists.{length-entries}
use Rattle.stil_tree.proofs.stmt.StmtList.is_empty.Goals as goal

pub returns : goal.returns
returns c = c.is_empty.ensures ∙ ap (λ n. n == 0) (length-entries c.as_slice.result.now _ c.as_slice.ensures)
