use Rattle.std.proofs.Common.{append_assoc}
use Rattle.tool_inputs.proofs.refusal.put_bad_net.Goals as goal

pub returns : goal.returns
returns g c = simp append_assoc c.ended.ensures
