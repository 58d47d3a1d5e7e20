use Rattle.stil_ast.proofs.InheritLemmas.{lineage_follows}
use Rattle.stil_ast.proofs.laws.lineage_follows.Goals as goal

pub returns : goal.returns
returns c = lineage_follows
