use Rattle.packed_code.proofs.CountLemmas.{cycle_count-length}
use Rattle.packed_code.proofs.laws.count_is_length.Goals as goal

pub returns : goal.returns
returns c = λ code. cycle_count-length code
