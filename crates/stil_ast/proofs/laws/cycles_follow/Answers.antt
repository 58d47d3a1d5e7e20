use Rattle.stil_ast.proofs.CycleLemmas.{cycles_follow}
use Rattle.stil_ast.proofs.laws.cycles_follow.Goals as goal

pub returns : goal.returns
returns c = cycles_follow
