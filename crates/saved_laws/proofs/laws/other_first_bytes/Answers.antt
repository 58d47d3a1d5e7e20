use Rattle.saved_laws.proofs.LawLemmas.{magic_law}
use Rattle.saved_laws.proofs.laws.other_first_bytes.Goals as goal

pub returns : goal.returns
returns c = λ bytes e. magic_law bytes e
