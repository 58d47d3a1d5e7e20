use Rattle.std.proofs.Common.{◌∙◌, List, length, map, sym, subst}
use Rattle.std.specs.Prelude.{All}
use Rattle.tester_types.specs.declared.cycle.Moment.{Moment}
use Rattle.edge_gen.specs.Moments.{later}
use Rattle.die_sim.specs.Die.{device_of}
use Rattle.cycle_run.specs.Cycle.{point_at}
use Rattle.cycle_run.specs.Step.{IsScheduled}
use Rattle.cycle_run.proofs.MomentLemmas.{row_long, moved_fit, moments_fit}
use Rattle.cycle_run.proofs.ScheduleLemmas.{schedule_is, moments_are}
use Rattle.cycle_run.proofs.CycleLemmas.{cycle_plays, cycle_stops}
use Rattle.cycle_run.specs.Setup.{code_in}
use Rattle.cycle_run.proofs.cycle.make_lent.Goals as goal

pub make_all-requires-clause-moments : goal.make_all-requires-clause-moments
make_all-requires-clause-moments g c =
    let setup = c.args.setup.now in
    let code = code_in setup in
    let cycle = c.args.place.cycle in
    let signals = length setup.image.now.binds in
    let table = c.table-table.result.now in
    let row = c.row-row.result.now in
    let found = c.in-Some.ensures in
    let is = found ∙ schedule_is code setup.skews.now cycle.table cycle.row table row c.table-table.ensures.found c.row-row.ensures in
    let long = row_long code cycle.row row c.signals-signals.ensures.conditions c.requires.of.row c.row-row.ensures in
    let fit = moved_fit code setup.skews.now cycle.table table row c.requires.set_up.skews_fit c.requires.of.table
    c.table-table.ensures.found long in
    subst (λ (l : List Moment). All (IsScheduled signals) l) (sym (c.as_slice.ensures ∙ is))
    (moments_fit table row setup.skews.now signals (long ∙ sym c.requires.set_up.signals) c.table-table.ensures.period.1 fit)

pub returns-in-Some-clause-plays : goal.returns-in-Some-clause-plays
returns-in-Some-clause-plays g c =
    let setup = c.args.setup.now in
    let code = code_in setup in
    let place = c.args.place in
    let cycle = place.cycle in
    let table = c.table-table.result.now in
    let row = c.row-row.result.now in
    let found = c.in-Some.ensures in
    let is = found ∙ schedule_is code setup.skews.now cycle.table cycle.row table row c.table-table.ensures.found c.row-row.ensures in
    let are = moments_are code setup.skews.now (device_of setup.image.now) place.start cycle table row c.as_slice.result.now
    c.table-table.ensures.found c.row-row.ensures (c.as_slice.ensures ∙ is) in
    cycle_plays code setup.skews.now (device_of setup.image.now) place.exec place.start place.number cycle
    (map (later place.start) c.as_slice.result.now)
    (point_at c.args.bench.now.checker c.args.bench.now.last.items (g.K.Socket.told c.args.socket.now))
    (point_at c.make_all.new.bench.checker c.make_all.new.bench.last.items (g.K.Socket.told c.make_all.new.socket))
    c.make_all.result are c.make_all.ensures.closes

pub returns-in-Some-clause-stops : goal.returns-in-Some-clause-stops
returns-in-Some-clause-stops g c =
    let setup = c.args.setup.now in
    let code = code_in setup in
    let place = c.args.place in
    let cycle = place.cycle in
    let table = c.table-table.result.now in
    let row = c.row-row.result.now in
    let found = c.in-Some.ensures in
    let is = found ∙ schedule_is code setup.skews.now cycle.table cycle.row table row c.table-table.ensures.found c.row-row.ensures in
    let are = moments_are code setup.skews.now (device_of setup.image.now) place.start cycle table row c.as_slice.result.now
    c.table-table.ensures.found c.row-row.ensures (c.as_slice.ensures ∙ is) in
    cycle_stops code setup.skews.now (device_of setup.image.now) place.exec place.start place.number cycle
    (map (later place.start) c.as_slice.result.now)
    (point_at c.args.bench.now.checker c.args.bench.now.last.items (g.K.Socket.told c.args.socket.now))
    (point_at c.make_all.new.bench.checker c.make_all.new.bench.last.items (g.K.Socket.told c.make_all.new.socket))
    c.make_all.result are c.requires.between c.make_all.ensures.stops
