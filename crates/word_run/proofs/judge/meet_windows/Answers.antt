use Rattle.word_run.specs.Judge.{window_met}
use Rattle.word_run.proofs.JudgeLemmas.{bits_more, all_numbers-more}
use Rattle.word_run.proofs.judge.meet_windows.Goals as goal

pub loop-signal-preserved : goal.loop-signal-preserved
loop-signal-preserved c = λ k device state within h.
    bits_more c.args.alive c.loop-signal.left c.meet_window-left.result k _ _ _
    (all_numbers-more (window_met c.args.bound.now device state c.args.windows.now) c.loop-signal.signal)
    (c.loop-signal.invariant k device state within h) (c.meet_window-left.ensures k device state within h)
