use Rattle.std.proofs.Common.{◌≡◌, drop}
use Rattle.stil_ast.specs.Faults.Found.{first_in}
use Rattle.stil_ast.specs.Faults.BurstFaults.{is_category, named_fault}
use Rattle.pattern_order.proofs.names.check_categories.Given as goal

abbrev pub invariant-loop-named : goal.invariant-loop-named
invariant-loop-named l =
    first_in (named_fault l.exec (is_category l.names)) (drop l.named-index l.named-items)
    ≡ first_in (named_fault l.exec (is_category l.names)) l.exec.categories
