use Rattle.stil_ast.proofs.ShiftLemmas.{shift_is_in_order}
use Rattle.stil_ast.proofs.laws.shift_is_in_order.Goals as goal

pub returns : goal.returns
returns c = shift_is_in_order
