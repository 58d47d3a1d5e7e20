use Rattle.expr_text.proofs.ReadLemmas.{one_spelling}
use Rattle.expr_text.proofs.laws.one_spelling_each.Goals as goal

pub returns : goal.returns
returns c = one_spelling
