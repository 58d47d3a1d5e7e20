use Rattle.flat_parts.proofs.NestLemmas.{IsRest-nests}
use Rattle.flat_parts.proofs.laws.instructions_nest.Goals as goal

pub returns : goal.returns
returns c = IsRest-nests
