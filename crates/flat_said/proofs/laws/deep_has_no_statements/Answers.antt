use Rattle.flat_said.specs.FlatSaid.{flat_said}
use Rattle.flat_said.proofs.DeepLemmas.{deep_is_no_forest}
use Rattle.flat_said.proofs.ShapeLemmas.{flat_shaped}
use Rattle.flat_said.proofs.laws.deep_has_no_statements.Goals as goal

pub returns : goal.returns
returns c = λ code nests h. deep_is_no_forest (flat_said code nests) (flat_shaped code nests) h
