use Rattle.flat_tree.proofs.SameLemmas.{same-joined}
use Rattle.flat_tree.proofs.laws.same_is_joined.Goals as goal

pub returns : goal.returns
returns c = same-joined
