use Rattle.stil_ast.proofs.ConsumedLemmas.{mark_is_walked}
use Rattle.stil_ast.proofs.laws.mark_is_walked.Goals as goal

pub returns : goal.returns
returns c = mark_is_walked
