use Rattle.std.proofs.Common.{append_assoc}
use Rattle.tool_inputs.proofs.refusal.put_fault.Goals as goal

pub returns : goal.returns
returns g c =
    simp append_assoc
    (simp (append_assoc, c.as_bytes.ensures.value, c.name.ensures, c.as_slice.ensures, c.as_slice-2.ensures, c.from.ensures) at c.ended.ensures)
