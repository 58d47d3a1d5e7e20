use Rattle.std.proofs.Common.{◌≡◌, Ok, Err, Result, sym, ◌∙◌}
use Rattle.stil_tree.specs.Trees.{Trees}
use Rattle.stil_tree.specs.declared.fault.TreeFault.{TreeFault}
use Rattle.stil_tree.proofs.Reached.{forest_is_found, fault_is_found}
use Rattle.stil_tree.proofs.laws.forest_or_fault.Goals as goal

pub returns : goal.returns
returns c = λ tokens forest fault p f.
    let clash : ◌≡◌ {A = Result Trees TreeFault} (Ok forest) (Err fault) = sym (forest_is_found tokens forest p) ∙ fault_is_found tokens fault f in
    cc
