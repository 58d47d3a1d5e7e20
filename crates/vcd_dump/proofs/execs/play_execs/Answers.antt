use Rattle.std.proofs.Common.{◌∙◌, ◌+◌, ◌<◌, ◌≤◌, ◌++◌, ℕ, Option, length, drop, ap, arith}
use Rattle.packed_code.specs.Cycles.{cycles_of}
use Rattle.site_meaning.specs.Playing.{Going}
use Rattle.site_meaning.specs.Trials.{execs_of, after_cycles}
use Rattle.cycle_run.specs.Setup.{code_in, stand_in}
use Rattle.vcd_dump.specs.Play.{going_of, calls_from, goes_on}
use Rattle.vcd_dump.proofs.CallsLemmas.{all_at, execs_none, ends_all, goes_all, over_all, done_all, behind}
use Rattle.vcd_dump.proofs.execs.play_execs.Goals as goal

pub loop-exec-preserved : goal.loop-exec-preserved
loop-exec-preserved c =
    let code = code_in c.args.setup.now in
    let stand = stand_in c.args.setup.now in
    let exec = c.loop-exec.exec in
    let within : exec < length code.execs = omega (arith, c.loop-exec-test.true, c.execs-exec-end.ensures) in
    let later = drop (exec + 1) (execs_of code) in
    let t = rw c.in-Ok-Goes.field-0-is at c.in-Ok-Goes.ensures in
    let new = c.play_exec.new.way.recorder.calls in
    let all = all_at stand c.args.batch exec (going_of c.loop-exec.way) c.loop-exec.order code c.loop-exec.way.recorder.calls _ within c.loop-exec.invariant.all in
    record {
      before = t.3;
      all = ap (λ (g : Going). new ++ calls_from stand c.args.batch (exec + 1) g c.in-Ok-Goes.next later) t.4
          ∙ ap (λ (o : Option ℕ). new ++ calls_from stand c.args.batch (exec + 1) (after_cycles stand (going_of c.loop-exec.way) (cycles_of code exec)) o later) t.2
          ∙ goes_all stand c.args.batch exec (going_of c.loop-exec.way) c.loop-exec.order (cycles_of code exec) later c.loop-exec.way.recorder.calls new _
          all t.0 t.1;
    }

pub returns-in-Ok-Over : goal.returns-in-Ok-Over
returns-in-Ok-Over c =
    let code = code_in c.args.setup.now in
    let stand = stand_in c.args.setup.now in
    let exec = c.loop-exec.exec in
    let within : exec < length code.execs = omega (arith, c.loop-exec-test.true, c.execs-exec-end.ensures) in
    let later = drop (exec + 1) (execs_of code) in
    let going = going_of c.loop-exec.way in
    let base = c.args.way.now.recorder.calls ++ calls_from stand c.args.batch 0 (going_of c.args.way.now) c.args.order (execs_of code) in
    let t = rw c.in-Ok-Over.field-0-is at c.in-Ok-Over.ensures in
    let new = c.play_exec.new.way.recorder.calls in
    let all = all_at stand c.args.batch exec going c.loop-exec.order code c.loop-exec.way.recorder.calls base within c.loop-exec.invariant.all in (
      t.0 ++ behind stand c.args.batch exec going c.loop-exec.order (cycles_of code exec) later c.loop-exec.way.recorder.calls new base
          (goes_on stand c.args.batch exec going c.loop-exec.order (cycles_of code exec)),
      over_all stand c.args.batch exec going c.loop-exec.order (cycles_of code exec) later c.loop-exec.way.recorder.calls new base t.0 all t.1,
      t.2,
    )

pub returns-in-Ok-Ends : goal.returns-in-Ok-Ends
returns-in-Ok-Ends c =
    let code = code_in c.args.setup.now in
    let stand = stand_in c.args.setup.now in
    let exec = c.loop-exec.exec in
    let within : exec < length code.execs = omega (arith, c.loop-exec-test.true, c.execs-exec-end.ensures) in
    let t = rw c.in-Ok-Ends.field-0-is at c.in-Ok-Ends.ensures in
    let all = all_at stand c.args.batch exec (going_of c.loop-exec.way) c.loop-exec.order code c.loop-exec.way.recorder.calls _ within c.loop-exec.invariant.all in
    ends_all stand c.args.batch exec (going_of c.loop-exec.way) c.loop-exec.order (cycles_of code exec) (drop (exec + 1) (execs_of code))
    c.loop-exec.way.recorder.calls c.play_exec.new.way.recorder.calls _ all t.0 t.1

pub returns : goal.returns
returns c =
    let code = code_in c.args.setup.now in
    let exec = c.loop-exec.exec in
    let past : length code.execs ≤ exec = omega (arith, c.loop-exec-test.false, c.execs-exec-end.ensures) in
    done_all (stand_in c.args.setup.now) c.args.batch exec (going_of c.loop-exec.way) c.loop-exec.order
    (drop exec (execs_of code)) c.loop-exec.way.recorder.calls _ (execs_none code exec past) c.loop-exec.invariant.all
