use Rattle.std.proofs.Common.{ℕ, List, ap, ◌∙◌, min}
use Rattle.std.specs.Int.{bit_at}
use Rattle.std.specs.List.{list_all}
use Rattle.std.proofs.lemmas.List.{take_all}
use Rattle.std.proofs.lemmas.List.Folds.{list_all_more}
use Rattle.tester_types.specs.declared.wave.Look.{Look}
use Rattle.die_words.specs.Lane.{bit}
use Rattle.word_run.specs.Judge.{edge_met}
use Rattle.word_run.proofs.JudgeLemmas.{bits_more}
use Rattle.word_run.proofs.judge.meet_edges.Goals as goal

pub loop-signal-preserved : goal.loop-signal-preserved
loop-signal-preserved c = λ k device state within h.
    bits_more c.args.alive c.loop-signal.left c.meet_edge-left.result k _ _ _
    (list_all_more (edge_met c.args.bound.now device state) c.args.looks.now c.loop-signal.signal-index _ c.loop-signal-test.true)
    (c.loop-signal.invariant k device state within h) (c.meet_edge-left.ensures k device state within h)

pub returns : goal.returns
returns c = λ k device state within h.
    c.loop-signal.invariant k device state within h
    ∙ ap (λ (l : List (ℕ × Look)). min (bit_at c.args.alive k) (bit (list_all (edge_met c.args.bound.now device state) l)))
    (take_all c.loop-signal.signal-index c.args.looks.now c.loop-signal-test.false)
