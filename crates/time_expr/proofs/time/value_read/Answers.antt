use Rattle.std.proofs.Common.{inl, inr, ap, Err}
use Rattle.time_expr.proofs.TimesLemmas.{times_of_is}
use Rattle.time_expr.proofs.KeptLemmas.{value-spelled}
use Rattle.time_expr.proofs.time.value_read.Goals as goal

pub returns-in-Ok : goal.returns-in-Ok
returns-in-Ok c =
    value-spelled c.args.vars.now c.args.text.now c.in-Ok.expr c.value.result c.in-Ok.ensures.found c.value.ensures

pub returns-in-Err : goal.returns-in-Err
returns-in-Err c = elim c.in-Err.ensures.fault [
  | inl e ↦ inl (ap Err e)
  | inr f ↦ inr (λ names are. times_of_is.refused names c.args.text.now c.in-Err.fault f)
]
