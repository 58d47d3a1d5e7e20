use Rattle.saved_laws.proofs.LawLemmas.{agree_law}
use Rattle.saved_laws.proofs.laws.same_up_to_the_field.Goals as goal

pub returns : goal.returns
returns c = λ bytes place e. agree_law bytes place e
