use Rattle.expr_text.proofs.ValueLemmas.{same_value}
use Rattle.expr_text.proofs.laws.one_value_each.Goals as goal

pub returns : goal.returns
returns c = same_value
