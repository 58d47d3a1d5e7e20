use Rattle.answers.proofs.StepLemmas.{first_is, is_first}
use Rattle.answers.proofs.first_step_refused.Goals as goal

pub returns : goal.returns
returns g c = λ step state es fault. (first_is step state es fault, is_first step state es fault)
