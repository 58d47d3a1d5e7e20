use Rattle.std.proofs.Common.{◌≡◌, None}
use Rattle.answers.specs.Answers.{Blames}
use Rattle.stil_ast.specs.declared.blocks.Blocks.{Blocks}
use Rattle.burst_exec.specs.Staged.{values_fault, waves_fault, ends_fault, tables_of, chains_of}
use Rattle.burst_exec.proofs.StagedLemmas.{in_blocks, for_names, for_values, for_tables, for_chains, for_nothing, waves_there}
use Rattle.burst_exec.proofs.staging.stage_exec.Goals as goal

pub returns-in-Err-clause-staged : goal.returns-in-Err-clause-staged
returns-in-Err-clause-staged c = λ e at. for_names c.args.names.now c.args.before e c.in-Err.refusal (c.in-Err.ensures e at)

pub returns-in-Err-valued-clause-staged : goal.returns-in-Err-valued-clause-staged
returns-in-Err-valued-clause-staged c = λ e at.
    let names = c.args.names.now in
    for_values names c.args.before e c.in-Err-valued.refusal (c.in-Ok.ensures e at).0
    (in_blocks c.blocks-2.result.now names c.args.exec e (λ (b : Blocks). Blames (values_fault b e) c.in-Err-valued.refusal)
    c.blocks-2.ensures (c.in-Err-valued.ensures e) at)

pub returns-in-Err-tabled-clause-staged : goal.returns-in-Err-tabled-clause-staged
returns-in-Err-tabled-clause-staged c = λ e at.
    let names = c.args.names.now in
    let values = in_blocks c.blocks-2.result.now names c.args.exec e (λ (b : Blocks). values_fault b e ≡ None)
    c.blocks-2.ensures (λ h. (c.in-Ok-valued.ensures e h).0) at in
    for_tables names c.args.before e c.in-Err-tabled.refusal (c.in-Ok.ensures e at).0 values
    (in_blocks c.blocks-3.result.now names c.args.exec e (λ (b : Blocks). Blames (waves_fault b c.args.before e) c.in-Err-tabled.refusal)
    c.blocks-3.ensures (c.in-Err-tabled.ensures e) at)

pub returns-clause-staged : goal.returns-clause-staged
returns-clause-staged c = λ e at.
    let names = c.args.names.now in
    let values = in_blocks c.blocks-2.result.now names c.args.exec e (λ (b : Blocks). values_fault b e ≡ None)
    c.blocks-2.ensures (λ h. (c.in-Ok-valued.ensures e h).0) at in
    let tables = in_blocks c.blocks-3.result.now names c.args.exec e (λ (b : Blocks). waves_fault b c.args.before e ≡ None)
    c.blocks-3.ensures (λ h. (c.in-Ok-tabled.ensures e h).0) at in
    for_chains names c.args.before e c.in-Err-chained.refusal (c.in-Ok.ensures e at).0 values tables
    (in_blocks c.blocks-4.result.now names c.args.exec e (λ (b : Blocks). Blames (ends_fault b e) c.in-Err-chained.refusal)
    c.blocks-4.ensures (c.in-Err-chained.ensures.found e) at)

pub returns-in-Ok-chained-clause-staged : goal.returns-in-Ok-chained-clause-staged
returns-in-Ok-chained-clause-staged c = λ e at.
    let names = c.args.names.now in
    let order = c.in-Ok.ensures e at in
    let values = in_blocks c.blocks-2.result.now names c.args.exec e (λ (b : Blocks). values_fault b e ≡ None)
    c.blocks-2.ensures (λ h. (c.in-Ok-valued.ensures e h).0) at in
    let tables = in_blocks c.blocks-3.result.now names c.args.exec e
    (λ (b : Blocks). (waves_fault b c.args.before e ≡ None) × (c.in-Ok-tabled.tables ≡ tables_of b e))
    c.blocks-3.ensures (c.in-Ok-tabled.ensures e) at in
    let chains = in_blocks c.blocks-4.result.now names c.args.exec e
    (λ (b : Blocks). (ends_fault b e ≡ None) × (c.in-Ok-chained.chains ≡ chains_of b e))
    c.blocks-4.ensures (c.in-Ok-chained.ensures.found e) at in (
      for_nothing names c.args.before e order.0 values tables.0 chains.0,
      record {
        order_is = order.1;
        tables_are = tables.1;
        chains_are = chains.1;
        waves_are = waves_there names c.args.before e c.in-Ok-tabled.tables c.waves_behind.result tables.1 c.waves_behind.ensures;
      },
    )
