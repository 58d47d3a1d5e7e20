use Rattle.std.proofs.Common.{◌∙◌}
use Rattle.tool_inputs.proofs.InputLemmas.{net_refused}
use Rattle.tool_inputs.proofs.inputs.read_net.Goals as goal

pub returns-in-Err-clause-reads : goal.returns-in-Err-clause-reads
returns-in-Err-clause-reads g c =
    net_refused _ _ _ c.args.file.now _ c.as_slice.result.now c.from_vec.result c.in-Err.fault c.in_ok-bytes.ensures.found
    c.as_slice.ensures.value (c.from_vec.ensures ∙ c.in-Ok.ensures.items ∙ c.as_bytes.ensures.value) c.in-Err.ensures.fault
