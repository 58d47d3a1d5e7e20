use Rattle.scan_chain.proofs.ShortLemmas.{chains-are_short}
use Rattle.scan_chain.proofs.laws.chains_are_short.Goals as goal

pub returns : goal.returns
returns c = chains-are_short
