use Rattle.std.proofs.Common.{◌+◌, ◌<◌, ◌∷◌, [], List, arith, length, map, take, drop, subst, sym, ◌∙◌, refl}
use Rattle.std.proofs.lemmas.List.{take_all}
use Rattle.std.proofs.lemmas.Result.{err_from_is_err_and}
use Rattle.tester_types.specs.declared.cycle.Moment.{Moment}
use Rattle.edge_gen.specs.Moments.{later}
use Rattle.die_sim.specs.Die.{device_of}
use Rattle.cycle_run.specs.Cycle.{point_at}
use Rattle.cycle_run.specs.Step.{whose_at, GoesThrough, Stops}
use Rattle.cycle_run.proofs.StepLemmas.{goes_nowhere, goes-append, stops-behind, map-split, map-more}
use Rattle.cycle_run.specs.BatchLaws.{cause_behind}
use Rattle.cycle_run.proofs.moments.make_moments.Goals as goal

pub loop-moment-init : goal.loop-moment-init
loop-moment-init g c = record {
  goes = goes_nowhere (device_of c.args.image.now) (whose_at c.args.place) _;
  ready = c.requires.ready;
  room = c.requires.room;
  loaded = refl;
  count = omega arith;
}

pub returns-in_err-make_moment-clause-makes : goal.returns-in_err-make_moment-clause-makes
returns-in_err-make_moment-clause-makes g c =
    let device = device_of c.args.image.now in
    let whose = whose_at c.args.place in
    let f = later c.args.place.start in
    let i = c.loop-moment.moment-index in
    let ms = c.args.moments.now in
    let m = c.moment-item.result in
    let old = point_at c.args.bench.now.checker c.args.bench.now.last.items (g.K.Socket.told c.args.socket.now) in
    let mid = point_at c.loop-moment.bench.checker c.loop-moment.bench.last.items (g.K.Socket.told c.loop-moment.socket) in
    let new = point_at c.make_moment.new.bench.checker c.make_moment.new.bench.last.items (g.K.Socket.told c.make_moment.new.socket) in
    let why = c.in_err-make_moment.field-0.0 in
    let stops = subst (λ (l : List Moment). Stops device whose l old new why)
    (sym (map-split f ms i m c.loop-moment-test.true c.moment-item.is))
    (stops-behind device whose (map f (take i ms)) old mid new c.loop-moment.invariant.goes (f m ∷ []) (map f (drop (i + 1) ms))
    why c.in_err-make_moment.ensures.makes.0) in
    let cause = cause_behind old.told.count mid.told.count new.told.count why c.loop-moment.invariant.count
    c.in_err-make_moment.ensures.count c.in_err-make_moment.ensures.makes.1 in
    let p = err_from_is_err_and c.from_residual.result c.from_residual.ensures.1 in
    rw (p.1, p.2) (stops, cause)

pub loop-moment-preserved : goal.loop-moment-preserved
loop-moment-preserved g c =
    let device = device_of c.args.image.now in
    let whose = whose_at c.args.place in
    let f = later c.args.place.start in
    let i = c.loop-moment.moment-index in
    let ms = c.args.moments.now in
    let m = c.moment-item.result in
    let within : i < length ms = c.loop-moment-test.true in
    let before = c.loop-moment.invariant in
    let old = point_at c.args.bench.now.checker c.args.bench.now.last.items (g.K.Socket.told c.args.socket.now) in
    let mid = point_at c.loop-moment.bench.checker c.loop-moment.bench.last.items (g.K.Socket.told c.loop-moment.socket) in
    let new = point_at c.make_moment.new.bench.checker c.make_moment.new.bench.last.items (g.K.Socket.told c.make_moment.new.socket) in
    let joined = goes-append device whose (map f (take i ms)) old mid new before.goes (f m ∷ []) c.in_ok-make_moment.ensures.makes.0 in
    record {
      goes = subst (λ (l : List Moment). GoesThrough device whose l old new) (sym (map-more f ms i m within c.moment-item.is)) joined;
      ready = c.in_ok-make_moment.ensures.makes.1;
      room = c.in_ok-make_moment.ensures.room;
      loaded = c.in_ok-make_moment.ensures.loaded ∙ before.loaded;
      count = omega (arith, before.count, c.in_ok-make_moment.ensures.count);
    }

pub returns-clause-makes : goal.returns-clause-makes
returns-clause-makes g c =
    let ms = c.args.moments.now in
    let old = point_at c.args.bench.now.checker c.args.bench.now.last.items (g.K.Socket.told c.args.socket.now) in
    let new = point_at c.loop-moment.bench.checker c.loop-moment.bench.last.items (g.K.Socket.told c.loop-moment.socket) in (
      subst (λ (l : List Moment). GoesThrough (device_of c.args.image.now) (whose_at c.args.place) (map (later c.args.place.start) l) old new)
          (take_all c.loop-moment.moment-index ms c.loop-moment-test.false) c.loop-moment.invariant.goes,
      c.loop-moment.invariant.ready,
    )
