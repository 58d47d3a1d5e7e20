use Rattle.place_bits.proofs.BitLemmas.{cut-below, cut-above}
use Rattle.place_bits.proofs.bits.cut.Goals as goal

pub returns-clause-below : goal.returns-clause-below
returns-clause-below c = λ k l. cut-below c.args.word c.args.from k c.requires l

pub returns-clause-above : goal.returns-clause-above
returns-clause-above c = λ k a b. cut-above c.args.word c.args.from k c.requires a b
