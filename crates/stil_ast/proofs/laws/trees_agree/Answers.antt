use Rattle.stil_ast.proofs.TreeLemmas.{trees_agree}
use Rattle.stil_ast.proofs.laws.trees_agree.Goals as goal

pub returns : goal.returns
returns c = trees_agree
