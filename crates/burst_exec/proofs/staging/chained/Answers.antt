use Rattle.burst_exec.proofs.StagedLemmas.{chains_found}
use Rattle.burst_exec.proofs.staging.chained.Goals as goal

pub returns-clause-found : goal.returns-clause-found
returns-clause-found c = λ e at.
    chains_found c.args.blocks.now e c.scans_of.result.now c.chains.result (c.scans_of.ensures e at) c.chains.ensures.scans
