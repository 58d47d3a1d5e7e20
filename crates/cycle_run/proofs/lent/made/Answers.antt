use Rattle.std.proofs.Common.{◌≡◌, IfOk, List, sym, subst}
use Rattle.tester_types.specs.declared.cycle.Moment.{Moment}
use Rattle.cycle_run.proofs.MomentLemmas.{row_long, moved_fit}
use Rattle.cycle_run.proofs.ScheduleLemmas.{schedule_is}
use Rattle.cycle_run.proofs.lent.made.Goals as goal

pub schedule-requires-clause-skews : goal.schedule-requires-clause-skews
schedule-requires-clause-skews c =
    let code = c.args.code.now in
    let long = row_long code c.args.row c.row.result.now c.signals-signals.ensures.conditions c.requires.of.row c.row.ensures in
    moved_fit code c.args.skews.now c.args.table c.table.result.now c.row.result.now c.requires.skews c.requires.of.table
    c.table.ensures.found long

pub returns : goal.returns
returns c =
    subst (λ (ms : List Moment). IfOk c.schedule.result (λ moments. moments ≡ ms))
    (sym (schedule_is c.args.code.now c.args.skews.now c.args.table c.args.row c.table.result.now c.row.result.now
    c.table.ensures.found c.row.ensures)) c.schedule.ensures
