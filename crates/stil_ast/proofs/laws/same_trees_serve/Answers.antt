use Rattle.stil_ast.proofs.TreeLemmas.{same_trees_serve}
use Rattle.stil_ast.proofs.laws.same_trees_serve.Goals as goal

pub returns : goal.returns
returns c = same_trees_serve
