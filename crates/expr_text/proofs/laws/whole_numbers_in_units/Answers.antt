use Rattle.expr_text.proofs.ValueLemmas.{number_value}
use Rattle.expr_text.proofs.laws.whole_numbers_in_units.Goals as goal

pub returns : goal.returns
returns c = number_value
