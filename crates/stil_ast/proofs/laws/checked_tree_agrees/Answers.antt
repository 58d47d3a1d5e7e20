use Rattle.stil_ast.proofs.SteadyLemmas.{checked_tree_agrees}
use Rattle.stil_ast.proofs.laws.checked_tree_agrees.Goals as goal

pub returns : goal.returns
returns c = checked_tree_agrees
