use Rattle.saved_laws.proofs.LawLemmas.{version_law}
use Rattle.saved_laws.proofs.laws.other_version.Goals as goal

pub returns : goal.returns
returns c = λ bytes e. version_law bytes e
