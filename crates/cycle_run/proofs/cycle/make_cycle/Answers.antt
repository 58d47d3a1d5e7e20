use Rattle.std.proofs.Common.{◌∙◌, List, length, map, sym, subst}
use Rattle.std.specs.Prelude.{All}
use Rattle.tester_types.specs.declared.cycle.Moment.{Moment}
use Rattle.edge_gen.specs.Moments.{later, moments_of}
use Rattle.edge_gen.specs.Held.{Held}
use Rattle.cycle_run.specs.Step.{IsScheduled, HoldsSchedules}
use Rattle.die_sim.specs.Die.{device_of}
use Rattle.cycle_run.specs.Cycle.{point_at}
use Rattle.cycle_run.proofs.MomentLemmas.{row_long, moved_fit, moments_fit}
use Rattle.cycle_run.proofs.ScheduleLemmas.{schedule_is, moments_are, holds_only, holds_asked}
use Rattle.cycle_run.proofs.CycleLemmas.{cycle_plays, cycle_stops}
use Rattle.cycle_run.proofs.cycle.make_cycle.Goals as goal

pub of-requires-clause-skews : goal.of-requires-clause-skews
of-requires-clause-skews g c =
    let code = c.args.code.now in
    let cycle = c.args.place.cycle in
    let long = row_long code cycle.row c.row-row.result.now c.requires.program c.requires.of.row c.row-row.ensures in
    moved_fit code c.args.skews.now cycle.table c.table-table.result.now c.row-row.result.now c.requires.skews c.requires.of.table
    c.table-table.ensures.found long

pub of-requires-clause-held : goal.of-requires-clause-held
of-requires-clause-held g c =
    let code = c.args.code.now in
    let cycle = c.args.place.cycle in
    holds_only code c.args.skews.now c.args.schedules.now (cycle.table, cycle.row) _ c.requires.held
    (schedule_is code c.args.skews.now cycle.table cycle.row c.table-table.result.now c.row-row.result.now c.table-table.ensures.found c.row-row.ensures)

pub make_all-requires-clause-moments : goal.make_all-requires-clause-moments
make_all-requires-clause-moments g c =
    let code = c.args.code.now in
    let cycle = c.args.place.cycle in
    let signals = length c.args.image.now.binds in
    let table = c.table-table.result.now in
    let row = c.row-row.result.now in
    let long = row_long code cycle.row row c.requires.program c.requires.of.row c.row-row.ensures in
    let fit = moved_fit code c.args.skews.now cycle.table table row c.requires.skews c.requires.of.table c.table-table.ensures.found long in
    subst (λ (l : List Moment). All (IsScheduled signals) l) (sym (c.as_slice.ensures ∙ c.in-Ok.ensures.moments))
    (moments_fit table row c.args.skews.now signals (long ∙ sym c.requires.signals) c.table-table.ensures.period.1 fit)

pub returns-in-Ok-clause-plays : goal.returns-in-Ok-clause-plays
returns-in-Ok-clause-plays g c =
    let place = c.args.place in
    let are = moments_are c.args.code.now c.args.skews.now (device_of c.args.image.now) place.start place.cycle c.table-table.result.now
    c.row-row.result.now c.as_slice.result.now c.table-table.ensures.found c.row-row.ensures (c.as_slice.ensures ∙ c.in-Ok.ensures.moments) in
    cycle_plays c.args.code.now c.args.skews.now (device_of c.args.image.now) place.exec place.start place.number place.cycle
    (map (later place.start) c.as_slice.result.now)
    (point_at c.args.bench.now.checker c.args.bench.now.last.items (g.K.Socket.told c.args.socket.now))
    (point_at c.make_all.new.bench.checker c.make_all.new.bench.last.items (g.K.Socket.told c.make_all.new.socket))
    c.make_all.result are c.make_all.ensures.closes

pub returns-in-Ok-clause-stops : goal.returns-in-Ok-clause-stops
returns-in-Ok-clause-stops g c =
    let place = c.args.place in
    let are = moments_are c.args.code.now c.args.skews.now (device_of c.args.image.now) place.start place.cycle c.table-table.result.now
    c.row-row.result.now c.as_slice.result.now c.table-table.ensures.found c.row-row.ensures (c.as_slice.ensures ∙ c.in-Ok.ensures.moments) in
    cycle_stops c.args.code.now c.args.skews.now (device_of c.args.image.now) place.exec place.start place.number place.cycle
    (map (later place.start) c.as_slice.result.now)
    (point_at c.args.bench.now.checker c.args.bench.now.last.items (g.K.Socket.told c.args.socket.now))
    (point_at c.make_all.new.bench.checker c.make_all.new.bench.last.items (g.K.Socket.told c.make_all.new.socket))
    c.make_all.result are c.requires.between c.make_all.ensures.stops

pub returns-in-Ok-clause-held : goal.returns-in-Ok-clause-held
returns-in-Ok-clause-held g c =
    let code = c.args.code.now in
    let cycle = c.args.place.cycle in
    let moments = moments_of c.table-table.result.now c.row-row.result.now c.args.skews.now 0 in
    let last = rw c.in-Ok.is at c.of.follows.holds-at-none in
    subst (λ (h : Held). HoldsSchedules code c.args.skews.now h) (sym last)
    (holds_asked code c.args.skews.now c.args.schedules.now (cycle.table, cycle.row) moments c.requires.held
    (schedule_is code c.args.skews.now cycle.table cycle.row c.table-table.result.now c.row-row.result.now c.table-table.ensures.found c.row-row.ensures))
