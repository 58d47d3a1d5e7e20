use Rattle.pattern_mem.proofs.NextLemmas.{one_next}
use Rattle.pattern_mem.proofs.laws.one_next.Goals as goal

pub returns : goal.returns
returns c = λ before answer other after later a b. one_next before answer other after later a b
