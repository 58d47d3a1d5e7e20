use Rattle.std.proofs.Common.{◌∙◌, sym}
use Rattle.strobe_check.proofs.LookLemmas.{window_after-own, window_after-other}
use Rattle.strobe_check.proofs.judge.after_looks.Goals as goal
use Rattle.strobe_check.proofs.judge.after_looks.Goals.{then-of-signal, else-of-signal}

pub loop-of-preserved : goal.loop-of-preserved
loop-of-preserved c =
    let looks = c.args.looks.now in
    let i = c.loop-of.of-index in
    elim c.if-of-signal.branch [
      | then-of-signal w ↦
          w.window-is ∙ w.opened-window.ensures
          ∙ sym
          (window_after-own c.args.window c.args.signal looks i _ c.loop-of-test.true w.if-of-signal.true)
      | else-of-signal w ↦
          w.window-is ∙ c.loop-of.invariant
          ∙ sym
          (window_after-other c.args.window c.args.signal looks i _ c.loop-of-test.true w.if-of-signal.false)
    ]
