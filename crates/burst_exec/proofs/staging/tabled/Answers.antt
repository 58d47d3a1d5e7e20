use Rattle.burst_exec.proofs.StagedLemmas.{values_are, tables_found}
use Rattle.burst_exec.proofs.staging.tabled.Goals as goal

pub build-requires-clause-vars : goal.build-requires-clause-vars
build-requires-clause-vars c = λ e at. values_are c.args.blocks.now e c.args.vars.now (c.requires.vars e at)

pub returns : goal.returns
returns c = λ e at.
    tables_found c.args.blocks.now c.args.before e c.build.result (c.build.ensures.found e at) (c.build.ensures.fault e at)
