use Rattle.std.proofs.Common.{◌≡◌, ◌++◌, drop, map}
use Rattle.stil_ast.specs.Meaning.Variables.{picked_in}
use Rattle.time_expr.specs.Picked.{variables_of}
use Rattle.time_expr.proofs.picked.add_variables.Given as goal

abbrev pub invariant-loop-variable : goal.invariant-loop-variable
invariant-loop-variable l =
    variables_of l.picked.items ++ map (picked_in l.taken l.spec) (drop l.variable-index l.variables)
    ≡ variables_of l.fn.picked.items ++ map (picked_in l.taken l.spec) l.variables
