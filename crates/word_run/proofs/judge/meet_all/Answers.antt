use Rattle.std.proofs.Common.{refl}
use Rattle.word_run.proofs.JudgeLemmas.{bits_more}
use Rattle.word_run.proofs.judge.meet_all.Goals as goal

pub returns : goal.returns
returns c = λ k device state within h.
    bits_more c.args.alive c.meet_edges-left.result c.meet_windows.result k _ _ _ refl
    (c.meet_edges-left.ensures k device state within h) (c.meet_windows.ensures k device state within h)
