use Rattle.flat_tree.proofs.FlatLemmas.{joined-done}
use Rattle.flat_tree.proofs.laws.joined_with_nothing.Goals as goal

pub returns : goal.returns
returns c = joined-done
