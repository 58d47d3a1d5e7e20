use Rattle.stil_read.proofs.OneTextLemmas.{blocks_are_of_one_text}
use Rattle.stil_read.proofs.laws.blocks_are_of_one_text.Goals as goal

pub returns : goal.returns
returns c = blocks_are_of_one_text
