use Rattle.burst_exec.proofs.StagedLemmas.{values_found}
use Rattle.burst_exec.proofs.staging.valued.Goals as goal

pub returns : goal.returns
returns c = λ e at.
    values_found c.args.blocks.now e c.choose.result (c.choose.ensures.found e at) (c.choose.ensures.fault e at)
