use Rattle.stil_ast.proofs.RunLemmas.{loop_splits}
use Rattle.stil_ast.proofs.laws.loop_splits.Goals as goal

pub returns : goal.returns
returns c = loop_splits
