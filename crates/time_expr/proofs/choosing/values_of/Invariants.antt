use Rattle.std.proofs.Common.{◌≡◌, ℕ, List, None, drop}
use Rattle.stil_ast.specs.Faults.Found.{first_in}
use Rattle.expr_text.specs.Vars.{value_of_name}
use Rattle.time_expr.specs.Picked.{variables_of}
use Rattle.time_expr.specs.Choosing.{AreKnown, variable_named, own_fault}
use Rattle.time_expr.proofs.choosing.values_of.Given as goal

abbrev pub invariant-loop-variable : goal.invariant-loop-variable
invariant-loop-variable l = record {
  known : AreKnown l.variables l.vars;
  same : variables_of l.variable-items ≡ l.variables;
  found : (name : List ℕ) → value_of_name name l.vars ≡ None
      → variable_named l.variables name ≡ variable_named (variables_of (drop l.variable-index l.variable-items)) name;
  fault : first_in (own_fault l.variables) l.variables
      ≡ first_in (own_fault l.variables) (variables_of (drop l.variable-index l.variable-items));
}
