use Rattle.answers.proofs.ReadingLemmas.{first_is, is_first}
use Rattle.answers.proofs.first_refused.Goals as goal

pub returns : goal.returns
returns g c = λ judge before es fault. (first_is judge before es fault, is_first judge before es fault)
