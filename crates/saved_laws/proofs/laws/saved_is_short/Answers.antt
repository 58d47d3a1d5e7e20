use Rattle.saved_laws.proofs.SizeLemmas.{saved_short}
use Rattle.saved_laws.proofs.laws.saved_is_short.Goals as goal

pub returns : goal.returns
returns c = saved_short
