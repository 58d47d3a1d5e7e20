use Rattle.std.proofs.Common.{append_assoc}
use Rattle.tool_inputs.proofs.refusal.put_too_few.Goals as goal

pub returns : goal.returns
returns g c = simp append_assoc (rw (c.from.ensures, c.from-2.ensures) at c.ended.ensures)
