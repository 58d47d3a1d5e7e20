use Rattle.std.proofs.Common.{◌∙◌}
use Rattle.stil_tool.proofs.DrillLemmas.{text_refused}
use Rattle.stil_tool.proofs.drill.code.Goals as goal

pub returns : goal.returns
returns c =
    text_refused c.args.number c.as_slice.result.now c.in-Err-Fault.field-0 c.in-Err-Fault.fault
    (c.as_slice.ensures.value ∙ c.in-Ok.ensures.text) c.in-Err-Fault.field-0-is c.in-Err-Fault.ensures.fault
