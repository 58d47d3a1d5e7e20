use Rattle.saved_laws.proofs.LawLemmas.{torn_law}
use Rattle.saved_laws.proofs.laws.torn_at_the_end.Goals as goal

pub returns : goal.returns
returns c = λ bytes size e. torn_law bytes size e
