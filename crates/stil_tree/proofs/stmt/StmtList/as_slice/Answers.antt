use Rattle.std.proofs.Common.{ap, ◌∙◌, map}
use Rattle.stil_tree.specs.Trees.{entry_of}
use Rattle.stil_tree.proofs.Lists.{entries-trees}
use Rattle.stil_tree.proofs.stmt.StmtList.as_slice.Goals as goal

pub returns : goal.returns
returns c = ap (map entry_of) c.as_slice.ensures.value ∙ entries-trees c.args.self.now
