use Rattle.stil_ast.proofs.ArgumentLemmas.{shift_uses_up}
use Rattle.stil_ast.proofs.laws.shift_uses_up.Goals as goal

pub returns : goal.returns
returns c = shift_uses_up
