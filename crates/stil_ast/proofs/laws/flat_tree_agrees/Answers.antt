use Rattle.stil_ast.proofs.FlatLemmas.{flat_tree_agrees}
use Rattle.stil_ast.proofs.laws.flat_tree_agrees.Goals as goal

pub returns : goal.returns
returns c = flat_tree_agrees
