use Rattle.std.proofs.Common.{sym, ◌∙◌}
use Rattle.text_bytes.proofs.OptionLemmas.{none-from}
use Rattle.time_expr.specs.Picked.{variable_of}
use Rattle.time_expr.proofs.ChoosingLemmas.{open-named}
use Rattle.time_expr.proofs.order.ready_value.Goals as goal

pub returns : goal.returns
returns c = record {
  is_open = open-named c.args.variables.now c.args.vars.now c.args.name.now (variable_of c.in_ok-variable.variable.now)
      (sym c.in_ok-variable.ensures) (sym c.get.ensures ∙ none-from c.get.result c.if-is_some.ensures);
  value = c.in_ok-value.ensures;
}
