use Rattle.tool_inputs.proofs.InputLemmas.{text_refusal}
use Rattle.tool_inputs.proofs.inputs.text_code.Goals as goal

pub returns-in-Err-Fault : goal.returns-in-Err-Fault
returns-in-Err-Fault c =
    text_refusal c.args.bytes.now c.in-Err-Fault.field-0 c.in-Err-Fault.fault c.in-Err-Fault.field-0-is c.in-Err-Fault.ensures.fault
