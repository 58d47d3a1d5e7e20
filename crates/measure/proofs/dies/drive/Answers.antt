use Rattle.measure.proofs.OneInputLemmas.{AreDrives-one}
use Rattle.measure.proofs.dies.drive.Goals as goal

pub apply-requires : goal.apply-requires
apply-requires c = AreDrives-one c.loop-moment.die.device _ c.loop-moment.invariant
