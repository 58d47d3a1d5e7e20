use Rattle.std.proofs.Common.{◌∙◌, [], get_or, arith}
use Rattle.std.proofs.lemmas.Option.{slice_get-get_or}
use Rattle.tester_types.specs.declared.wave.Table.{Table}
use Rattle.burst_exec.proofs.StagedLemmas.{waves_next}
use Rattle.burst_exec.proofs.staging.waves_behind.Goals as goal

pub loop-table-preserved : goal.loop-table-preserved
loop-table-preserved c =
    let tables = c.args.tables.now in
    let none : Table = record { name = []; period = 0; waves = [] } in
    let t = get_or tables c.loop-table.table none in
    c.saturating_add-count.ensures
    ∙ waves_next tables c.loop-table.table c.args.before c.loop-table.count c.waves_at.result t
    (slice_get-get_or tables c.loop-table.table none (omega (arith, c.loop-table-test.true, c.len-table-end.ensures)))
    c.loop-table.invariant c.waves_at.ensures
