use Rattle.std.proofs.Common.{◌*◌, ◌-◌, ◌∙◌, length, ap, arith, sym}
use Rattle.packed_code.proofs.WalkLemmas.{length-cycles}
use Rattle.cycle_run.proofs.FitLemmas.{few_cycles}
use Rattle.cycle_run.specs.Setup.{code_in}
use Rattle.word_run.specs.PlayerLaws.{ready_less}
use Rattle.word_run.proofs.RunLemmas.{runs_exec}
use Rattle.word_run.proofs.run.run_exec.Goals as goal

pub play_cycles-requires-clause-some : goal.play_cycles-requires-clause-some
play_cycles-requires-clause-some c =
    let count = length-cycles (code_in c.args.setup.now) c.args.exec in
    omega (arith, count, c.cycles.ensures, ap length c.walk-walk.ensures.coming)

pub play_cycles-requires-clause-ready : goal.play_cycles-requires-clause-ready
play_cycles-requires-clause-ready c =
    let code = code_in c.args.setup.now in
    let few = few_cycles code c.args.exec c.signals-conditions.ensures.conditions c.requires.exec in
    ready_less c.args.setup.now c.cycles.result (281474976710656 * (length code.execs - c.args.exec)) c.args.player.now
    (omega (arith, few, length-cycles code c.args.exec, c.cycles.ensures, c.requires.exec)) c.requires.before

pub returns-in-Ok : goal.returns-in-Ok
returns-in-Ok c =
    let code = code_in c.args.setup.now in
    let few = few_cycles code c.args.exec c.signals-conditions.ensures.conditions c.requires.exec in
    runs_exec c.args.setup.now c.args.exec c.cycles.result c.in-Ok.field-0 _ c.args.player.now c.play_cycles.new.player c.requires.exec
    c.walk-walk.ensures.coming (c.cycles.ensures ∙ sym (length-cycles code c.args.exec))
    (omega (arith, few, length-cycles code c.args.exec, c.cycles.ensures)) c.requires.before c.in-Ok.ensures.plays c.in-Ok.ensures.ready
