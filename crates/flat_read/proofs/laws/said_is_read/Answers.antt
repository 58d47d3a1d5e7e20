use Rattle.flat_read.proofs.WholeLemmas.{said_is_read as whole_is_read}
use Rattle.flat_read.proofs.laws.said_is_read.Goals as goal

pub returns : goal.returns
returns c = whole_is_read
