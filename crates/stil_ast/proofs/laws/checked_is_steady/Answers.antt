use Rattle.stil_ast.proofs.SteadyLemmas.{checked_is_steady}
use Rattle.stil_ast.proofs.laws.checked_is_steady.Goals as goal

pub returns : goal.returns
returns c = checked_is_steady
