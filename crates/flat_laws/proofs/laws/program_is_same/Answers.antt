use Rattle.flat_laws.proofs.LawLemmas.{program_is_same}
use Rattle.flat_laws.proofs.laws.program_is_same.Goals as goal

pub returns : goal.returns
returns c = program_is_same
