use Rattle.std.proofs.Common.{◌≡◌, Ok, Result, sym, ◌∙◌}
use Rattle.stil_tree.specs.Trees.{Trees}
use Rattle.stil_tree.specs.declared.fault.TreeFault.{TreeFault}
use Rattle.stil_tree.proofs.Reached.{forest_is_found}
use Rattle.stil_tree.proofs.laws.one_forest.Goals as goal

pub returns : goal.returns
returns c = λ tokens forest other p q.
    let same : ◌≡◌ {A = Result Trees TreeFault} (Ok forest) (Ok other) = sym (forest_is_found tokens forest p) ∙ forest_is_found tokens other q in
    cc
