use Rattle.stil_ast.proofs.ConsumedLemmas.{consumed_is_walked}
use Rattle.stil_ast.proofs.laws.consumed_is_walked.Goals as goal

pub returns : goal.returns
returns c = consumed_is_walked
