use Rattle.std.proofs.Common.{◌∙◌, List, length, ap, sym, subst, refl}
use Rattle.std.specs.Prelude.{fold}
use Rattle.std.proofs.lemmas.Result.{err_from_is_err_and}
use Rattle.tester_types.proofs.OutsideLemmas.{risen_behind}
use Rattle.tester_types.specs.declared.level.Level.{Level}
use Rattle.edge_gen.specs.Moments.{later}
use Rattle.die_sim.specs.Die.{device_of}
use Rattle.site_meaning.specs.Playing.{after_push}
use Rattle.cycle_run.specs.Cycle.{point_at}
use Rattle.cycle_run.specs.Step.{AreLevels, whose_at}
use Rattle.cycle_run.proofs.DriveLemmas.{can_drive, hands_over}
use Rattle.cycle_run.proofs.StepLemmas.{checker_fits, is_settled, is_checked, drive_calls, sense_calls, stops_before, stops_behind, IsMade, goes_one, ready_one}
use Rattle.cycle_run.proofs.moments.make_moment.Goals as goal

pub drive_die-requires-clause-can : goal.drive_die-requires-clause-can
drive_die-requires-clause-can g c =
    let device = device_of c.args.image.now in
    let of = c.requires.moment.of in
    let moment = later c.args.place.start c.args.moment.now in
    let drives = hands_over device moment c.as_slice.ensures.value c.as_slice-2.ensures c.in_ok-collect.ensures in
    can_drive device _ c.args.bench.now.last.items moment c.as_slice-3.result.now _ c.requires.ready.loaded
    (c.as_slice-3.ensures.value ∙ drives) (record { rising = of.rising; below = of.below })

pub drive_die-requires-clause-settled : goal.drive_die-requires-clause-settled
drive_die-requires-clause-settled g c =
    is_settled (device_of c.args.image.now) _ _ c.requires.ready.loaded c.requires.ready.state

pub sense_wanted-requires-clause-wide : goal.sense_wanted-requires-clause-wide
sense_wanted-requires-clause-wide g c =
    checker_fits (device_of c.args.image.now)
    (point_at c.args.bench.now.checker c.args.bench.now.last.items (g.K.Socket.told c.args.socket.now))
    c.args.bench.now.levels.items c.args.bench.now.levels.items c.requires.ready c.requires.room.levels_count refl

pub sense_wanted-requires-clause-checked : goal.sense_wanted-requires-clause-checked
sense_wanted-requires-clause-checked g c =
    is_checked (device_of c.args.image.now) _ _ c.in-Ok.ensures.loaded c.requires.ready

pub look_at-requires : goal.look_at-requires
look_at-requires g c =
    checker_fits (device_of c.args.image.now)
    (point_at c.args.bench.now.checker c.args.bench.now.last.items (g.K.Socket.told c.args.socket.now))
    c.args.bench.now.levels.items c.as_slice-4.result.now c.requires.ready c.requires.room.levels_count
    (ap (λ (l : List Level). length l) c.as_slice-4.ensures.value ∙ c.in-Ok-sense_wanted.ensures.room)

pub returns-in_err-collect-clause-makes : goal.returns-in_err-collect-clause-makes
returns-in_err-collect-clause-makes g c =
    let p = err_from_is_err_and c.from_residual.result c.from_residual.ensures.1 in
    rw (p.1, p.2) (tt, tt)

pub returns-in-Err-clause-makes : goal.returns-in-Err-clause-makes
returns-in-Err-clause-makes g c =
    let device = device_of c.args.image.now in
    let moment = later c.args.place.start c.args.moment.now in
    let old = point_at c.args.bench.now.checker c.args.bench.now.last.items (g.K.Socket.told c.args.socket.now) in
    let drives = hands_over device moment c.as_slice.ensures.value c.as_slice-2.ensures c.in_ok-collect.ensures in
    let calls = drive_calls device (whose_at c.args.place) moment old c.as_slice-3.result.now (c.as_slice-3.ensures.value ∙ drives)
    c.in-Err.ensures.some in
    (stops_before device (whose_at c.args.place) moment old _ refl c.in-Err.ensures.kept calls, c.in-Err.ensures.cause)

pub returns-in-Err-sense_wanted-clause-makes : goal.returns-in-Err-sense_wanted-clause-makes
returns-in-Err-sense_wanted-clause-makes g c =
    let device = device_of c.args.image.now in
    let moment = later c.args.place.start c.args.moment.now in
    let old = point_at c.args.bench.now.checker c.args.bench.now.last.items (g.K.Socket.told c.args.socket.now) in
    let drives = hands_over device moment c.as_slice.ensures.value c.as_slice-2.ensures c.in_ok-collect.ensures in
    let calls = sense_calls device (whose_at c.args.place) moment old
    (c.in-Err-sense_wanted.ensures.some moment (sym c.as_slice-looks.ensures)) in (
      stops_behind device (whose_at c.args.place) moment old _ c.as_slice-3.result.now refl (c.as_slice-3.ensures.value ∙ drives)
          (c.in-Err-sense_wanted.ensures.tape ∙ c.in-Ok.ensures.tape) calls,
      risen_behind old.told.count (g.K.Socket.told c.drive_die.new.socket).count (g.K.Socket.told c.sense_wanted.new.socket).count
          c.in-Ok.ensures.count c.in-Err-sense_wanted.ensures.count c.in-Err-sense_wanted.ensures.cause,
    )

pub returns-clause-makes : goal.returns-clause-makes
returns-clause-makes g c =
    let device = device_of c.args.image.now in
    let bench = c.args.bench.now in
    let whose = whose_at c.args.place in
    let moment = later c.args.place.start c.args.moment.now in
    let its_looks = sym c.as_slice-looks.ensures in
    let drives = hands_over device moment c.as_slice.ensures.value c.as_slice-2.ensures c.in_ok-collect.ensures in
    let sensed = c.in-Ok-sense_wanted.ensures in
    let old = point_at bench.checker bench.last.items (g.K.Socket.told c.args.socket.now) in
    let between = g.K.Socket.told c.drive_die.new.socket in
    let new = point_at c.look_at.new.self c.remember.new.last.items (g.K.Socket.told c.sense_wanted.new.socket) in
    let levels = subst (λ (l : List Level). AreLevels between bench.checker moment (length bench.levels.items) l)
    (sym c.as_slice-4.ensures.value) (sensed.levels moment its_looks) in
    let made : IsMade device whose moment c.as_slice-3.result.now c.as_slice-4.result.now (length bench.levels.items) old between new =
    record {
      ready = c.requires.ready;
      drives_are = c.as_slice-3.ensures.value ∙ drives;
      moves = c.in-Ok.ensures.moves;
      tape = c.in-Ok.ensures.tape;
      loaded = c.in-Ok.ensures.loaded;
      all = c.requires.room.levels_count;
      levels_are = levels;
      state_then = sensed.kept;
      loaded_then = sensed.loaded;
      tape_then = sensed.tape;
      sees = c.look_at.ensures.seen moment refl its_looks;
      remembers = c.remember.ensures.all ∙ ap (fold after_push bench.last.items) c.as_slice-5.ensures;
    } in (
      goes_one device c.requires.whole whose moment c.as_slice-3.result.now c.as_slice-4.result.now (length bench.levels.items) old between new made,
      ready_one device c.requires.whole whose moment c.as_slice-3.result.now c.as_slice-4.result.now (length bench.levels.items) old between new made,
    )
