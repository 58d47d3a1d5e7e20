use Rattle.stil_ast.proofs.TreeLemmas.{tables_are_numbered}
use Rattle.stil_ast.proofs.laws.tables_are_numbered.Goals as goal

pub returns : goal.returns
returns c = tables_are_numbered
