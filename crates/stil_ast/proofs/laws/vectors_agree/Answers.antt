use Rattle.stil_ast.proofs.TreeLemmas.{vectors_agree}
use Rattle.stil_ast.proofs.laws.vectors_agree.Goals as goal

pub returns : goal.returns
returns c = vectors_agree
