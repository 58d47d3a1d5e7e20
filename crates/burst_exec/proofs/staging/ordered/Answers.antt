use Rattle.burst_exec.proofs.StagedLemmas.{names_found}
use Rattle.burst_exec.proofs.staging.ordered.Goals as goal

pub returns : goal.returns
returns c = λ e at.
    names_found c.args.names.now e c.play_order.result (c.play_order.ensures.found e at) (c.play_order.ensures.fault e at)
