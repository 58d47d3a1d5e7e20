use Rattle.flat_said.proofs.TextLemmas.{flat_reads}
use Rattle.flat_said.proofs.laws.text_is_said.Goals as goal

pub returns : goal.returns
returns c = flat_reads
