use Rattle.saved_laws.proofs.LawLemmas.{field_law}
use Rattle.saved_laws.proofs.laws.refused_at_a_field.Goals as goal

pub returns : goal.returns
returns c = λ bytes place e. field_law bytes place e
