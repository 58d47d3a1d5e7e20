use Rattle.saved_laws.proofs.LawLemmas.{saved_law}
use Rattle.saved_laws.proofs.laws.no_shorter_no_longer.Goals as goal

pub returns : goal.returns
returns c = λ bytes code is. saved_law bytes code is
