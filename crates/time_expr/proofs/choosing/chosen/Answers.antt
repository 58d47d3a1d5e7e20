use Rattle.std.proofs.Common.{subst, List}
use Rattle.stil_ast.specs.Meaning.Variables.{Variable}
use Rattle.time_expr.specs.Picked.{variables_of}
use Rattle.time_expr.specs.Choosing.{AreValues}
use Rattle.time_expr.proofs.ChoosingLemmas.{chooses}
use Rattle.time_expr.proofs.choosing.chosen.Goals as goal

pub returns : goal.returns
returns c =
    chooses (variables_of c.args.picked.now) c.values_of.result c.in_ok-variables.ensures.0
    (subst (λ (vs : List Variable). AreValues vs c.values_of.result) c.in_ok-variables.ensures.1 c.values_of.ensures)
