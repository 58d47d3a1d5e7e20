use Rattle.pattern_mem.proofs.NextLemmas.{one_whole}
use Rattle.pattern_mem.proofs.laws.one_whole.Goals as goal

pub returns : goal.returns
returns c = λ before answers others after later a b same. one_whole before answers others after later a b same
