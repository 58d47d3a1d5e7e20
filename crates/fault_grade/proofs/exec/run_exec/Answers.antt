use Rattle.std.proofs.Common.{◌∙◌, length, ap, arith, sym}
use Rattle.std.specs.Prelude.{None, nat_lt}
use Rattle.packed_code.specs.Cycles.{cycles_of}
use Rattle.packed_code.proofs.WalkLemmas.{length-cycles}
use Rattle.die_sim.specs.Socket.{holding}
use Rattle.cycle_run.proofs.FitLemmas.{few_cycles}
use Rattle.cycle_run.specs.Setup.{code_in, stand_in}
use Rattle.cycle_run.specs.Seat.{between_of}
use Rattle.cycle_run.proofs.SeatLemmas.{can_exec}
use Rattle.fault_grade.proofs.ExecLemmas.{up_to_fail, runs_now, still_clear, goes_so}
use Rattle.fault_grade.proofs.exec.run_exec.Goals as goal

pub play_at-requires-clause-some : goal.play_at-requires-clause-some
play_at-requires-clause-some c =
    let count = length-cycles (code_in c.args.setup.now) c.args.exec in
    omega (arith, count, c.cycles.ensures, ap length c.walk-walk.ensures.coming)

pub play_at-requires-clause-ready : goal.play_at-requires-clause-ready
play_at-requires-clause-ready c =
    let code = code_in c.args.setup.now in
    let few = few_cycles code c.args.exec c.signals-conditions.ensures.conditions c.requires.exec in
    can_exec c.args.setup.now 1 c.args.exec c.cycles.result c.args.schedules.now (holding c.args.socket.now None 0) c.args.at.now c.requires.exec
    (omega (arith, few, length-cycles code c.args.exec, c.cycles.ensures)) c.requires.before

pub returns-in-Ok-clause-runs : goal.returns-in-Ok-clause-runs
returns-in-Ok-clause-runs c =
    let setup = c.args.setup.now in
    let xs = cycles_of (code_in setup) c.args.exec in
    let old = between_of (holding c.args.socket.now None 0) c.args.at.now in
    let new = between_of (holding c.play_at.new.socket None 0) c.play_at.new.at in
    runs_now (stand_in setup) c.args.exec c.cycles.result c.in-Ok.field-0 xs old new
    (up_to_fail setup c.args.exec c.cycles.result c.in-Ok.field-0 _ xs old new c.requires.until c.walk-walk.ensures.coming c.in-Ok.ensures.plays)
    (c.cycles.ensures ∙ sym (length-cycles (code_in setup) c.args.exec)) c.requires.before.seen c.total.result c.total.ensures

pub returns-in-Ok-clause-goes_on : goal.returns-in-Ok-clause-goes_on
returns-in-Ok-clause-goes_on c =
    let setup = c.args.setup.now in
    let code = code_in setup in
    let xs = cycles_of code c.args.exec in
    let few = few_cycles code c.args.exec c.signals-conditions.ensures.conditions c.requires.exec in
    let old = between_of (holding c.args.socket.now None 0) c.args.at.now in
    let new = between_of (holding c.play_at.new.socket None 0) c.play_at.new.at in
    goes_so setup c.args.exec c.cycles.result c.args.schedules.now c.play_at.new.schedules (holding c.args.socket.now None 0)
    (holding c.play_at.new.socket None 0) c.args.at.now c.play_at.new.at c.requires.exec
    (omega (arith, few, length-cycles code c.args.exec, c.cycles.ensures)) c.requires.before c.in-Ok.ensures.ready (nat_lt 0 c.total.result)
    (still_clear (stand_in setup) c.args.exec c.cycles.result c.in-Ok.field-0 xs old new
    (up_to_fail setup c.args.exec c.cycles.result c.in-Ok.field-0 _ xs old new c.requires.until c.walk-walk.ensures.coming c.in-Ok.ensures.plays)
    (c.cycles.ensures ∙ sym (length-cycles code c.args.exec)) c.requires.before.seen c.total.result c.total.ensures)
