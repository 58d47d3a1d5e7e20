use Rattle.std.proofs.Common.{◌∙◌}
use Rattle.stil_tool.proofs.DrillLemmas.{net_refused}
use Rattle.stil_tool.proofs.drill.net.Goals as goal

pub returns-in-Err : goal.returns-in-Err
returns-in-Err c =
    net_refused c.args.number c.as_slice.result.now c.from_vec.result c.in-Err.fault
    (c.as_slice.ensures.value ∙ c.in-Ok-net_text.ensures.text) (c.from_vec.ensures ∙ c.in-Ok.ensures.items) c.in-Err.ensures.fault
