use Rattle.time_expr.proofs.KeptLemmas.{value-spelled}
use Rattle.time_expr.proofs.time.value_in.Goals as goal

pub returns-in-Some : goal.returns-in-Some
returns-in-Some c =
    value-spelled c.args.vars.now c.args.text.now c.in-Some.expr.now c.value.result (rw c.in-Some.is at c.kept.ensures)
    c.value.ensures
