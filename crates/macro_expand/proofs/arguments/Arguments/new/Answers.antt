use Rattle.macro_expand.proofs.LaneLemmas.{none-given}
use Rattle.macro_expand.proofs.arguments.Arguments.new.Goals as goal

pub returns : goal.returns
returns c = none-given _ c.args.signals c.in_ok-lanes.lanes.items c.in_ok-lanes.ensures
