use Rattle.stil_program.proofs.FrontLemmas.{one_front}
use Rattle.stil_program.proofs.front_laws.one_front.Goals as goal

pub returns : goal.returns
returns c = one_front
