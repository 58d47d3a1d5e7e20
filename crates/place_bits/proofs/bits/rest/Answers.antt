use Rattle.place_bits.proofs.BitLemmas.{is_rest, rest-lt}
use Rattle.place_bits.proofs.bits.rest.Goals as goal

pub returns-clause-less : goal.returns-clause-less
returns-clause-less c = rest-lt c.args.word c.requires

pub returns-clause-rest : goal.returns-clause-rest
returns-clause-rest c = λ place low. is_rest c.args.word place low
