use Rattle.std.proofs.Common.{append_assoc}
use Rattle.tool_inputs.proofs.refusal.put_bad_saved.Goals as goal

pub returns : goal.returns
returns g c = simp append_assoc (rw c.from.ensures at c.ended.ensures)
