use Rattle.flat_tree.proofs.FlatLemmas.{joined-assoc}
use Rattle.flat_tree.proofs.laws.joined_associates.Goals as goal

pub returns : goal.returns
returns c = joined-assoc
