use Rattle.std.proofs.Common.{◌≡◌, ℕ, ◌+◌, ◌∙◌, take, drop, arith, ap, refl, subst}
use Rattle.packed_code.specs.Program.{Program}
use Rattle.pattern_mem.specs.Cursor.{cycles_to_come, IsCursorOf}
use Rattle.cycle_run.specs.Cycle.{stand_of}
use Rattle.cycle_run.specs.Batch.{Between, PlaysCycles}
use Rattle.cycle_run.proofs.FitLemmas.{few_cycles}
use Rattle.cycle_run.specs.declared.setup.Until.TheVariants as until
use Rattle.cycle_run.specs.Setup.{HasEnough}
use Rattle.cycle_run.specs.Play.{PlaysUpTo}
use Rattle.cycle_run.specs.Seat.{between_of}
use Rattle.cycle_run.proofs.PlayLemmas.{all_ran}
use Rattle.site_run.specs.declared.run.Run.{Run}
use Rattle.site_run.specs.Station.{code_in, device_in, stand_in}
use Rattle.site_run.proofs.StationLemmas.{can_play}
use Rattle.site_run.proofs.PolledLemmas.{plays_batch}
use Rattle.site_run.proofs.batch.play_batch.Goals as goal

pub play_at-requires-clause-ready : goal.play_at-requires-clause-ready
play_at-requires-clause-ready g c =
    can_play c.args.ground.now c.code.result c.args.station.now.schedules.now (g.K.Socket.told c.args.station.now.socket.now) c.args.run.now
    c.args.cycles c.code.ensures c.requires.serves.held c.requires.runs c.requires.within

pub overflow_add-run : goal.overflow_add-run
overflow_add-run g c =
    let r = c.requires.runs in
    let few = few_cycles (code_in c.args.ground.now) c.args.run.now.exec r.cursor.placed.program r.exec in
    omega (arith, c.requires.within, few)

pub overflow_add-run-2 : goal.overflow_add-run-2
overflow_add-run-2 g c =
    let r = c.requires.runs in
    let program = r.cursor.placed.program in
    let few = few_cycles (code_in c.args.ground.now) c.args.run.now.exec program r.exec in
    let execs = program.few_execs in
    omega (arith, r.batch, r.number, r.done, r.exec, few, execs)

pub returns-clause-plays : goal.returns-clause-plays
returns-clause-plays g c =
    let ground = c.args.ground.now in
    let old = c.args.run.now in
    let told = g.K.Socket.told c.args.station.now.socket.now in
    let told' = g.K.Socket.told c.play_at.new.socket in
    let new : Run = record {
      exec = old.exec;
      cursor = c.play_at.new.feed.cursor.now;
      done = old.done + c.args.cycles;
      batch = old.batch + 1;
      at = c.play_at.new.at;
    } in
    let played = subst (λ (p : Program). PlaysUpTo (PlaysCycles (stand_of p ground.skews.now (device_in ground)) old.exec)
    (λ (b : Between). HasEnough until.End b.point.held) (cycles_to_come p old.cursor) c.args.cycles c.in-Ok.field-0
    (between_of told old.at) (between_of told' new.at)) c.code.ensures c.in-Ok.ensures.plays in
    let all = all_ran _ _ _ _ _ _ _ played (λ over. cc) in
    let left = subst (λ (p : Program). cycles_to_come p new.cursor ≡ drop c.in-Ok.field-0 (cycles_to_come p old.cursor)) c.code.ensures
    c.in-Ok.ensures.left in
    let ready = c.in-Ok.ensures.ready 0 (can_play ground c.code.result c.args.station.now.schedules.now told old (0 + c.args.cycles)
    c.code.ensures c.requires.serves.held c.requires.runs (omega (arith, c.requires.within))) in
    plays_batch ground told told' old new c.args.cycles c.requires.runs c.requires.some c.requires.within
    (subst (λ (n : ℕ). PlaysCycles (stand_in ground) old.exec (take n (cycles_to_come (code_in ground) old.cursor)) (between_of told old.at)
    (between_of told' new.at)) all played.played)
    (left ∙ ap (λ (n : ℕ). drop n (cycles_to_come (code_in ground) old.cursor)) all)
    (subst (λ (p : Program). IsCursorOf p new.cursor) c.code.ensures c.in-Ok.ensures.can.of)
    ready.room ready.between refl refl refl
