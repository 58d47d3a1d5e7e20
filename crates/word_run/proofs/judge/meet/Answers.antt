use Rattle.std.proofs.Common.{arith}
use Rattle.die_sim.specs.Die.{level_of}
use Rattle.strobe_check.specs.Look.{is_met}
use Rattle.word_run.proofs.JudgeLemmas.{met_here}
use Rattle.word_run.proofs.judge.meet.Goals as goal

pub returns : goal.returns
returns c = λ k device state within h.
    met_here c.args.alive c.failing.result k (is_met c.args.look (level_of device state c.args.signal)) (omega arith) within
    (c.failing.ensures k device state within h)
