use Rattle.stil_tree.proofs.Lists.{length-entries}
use Rattle.stil_tree.proofs.stmt.StmtList.len.Goals as goal

pub returns : goal.returns
returns c = length-entries c.as_slice.result.now _ c.as_slice.ensures
