use Rattle.stil_tree.proofs.Lists.{entries-trees}
use Rattle.stil_tree.proofs.stmt.StmtList.into_vec.Goals as goal

pub returns : goal.returns
returns c = entries-trees c.args.self
