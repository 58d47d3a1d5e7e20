use Rattle.std.proofs.Common.{List, ◌+◌, drop, subst}
use Rattle.stil_ast.specs.Meaning.Bursts.{Played}
use Rattle.pattern_order.specs.Held.{played_in}
use Rattle.burst_exec.specs.Carried.{IsRunning, drafted}
use Rattle.burst_exec.proofs.RunLemmas.{run_starts, run_ends, rest_at, rest_none, has_none, has_ended, goes_further}
use Rattle.burst_exec.proofs.running.run_all.Goals as goal

pub loop-played-init : goal.loop-played-init
loop-played-init c = (
  c.requires.carried,
  c.requires.even,
  λ e stands. run_starts c.args.standing.now.blocks.now e (played_in c.args.order.now) c.args.progress.now c.args.draft.now c.requires.none,
)

pub run_next-requires-clause-carried : goal.run_next-requires-clause-carried
run_next-requires-clause-carried c = c.loop-played.invariant.0

pub run_next-requires-clause-even : goal.run_next-requires-clause-even
run_next-requires-clause-even c = c.loop-played.invariant.1

pub returns-in-Ok-true-clause-runs : goal.returns-in-Ok-true-clause-runs
returns-in-Ok-true-clause-runs c = λ e stands.
    let blocks = c.args.standing.now.blocks.now in
    let patterns = played_in c.args.order.now in
    let rest = drop (c.loop-played.played-index + 1) patterns in
    let running = subst (λ (ps : List Played). IsRunning blocks e patterns c.args.progress.now ps c.loop-played.progress c.loop-played.draft)
    (rest_at c.args.order.now c.loop-played.played-index c.played-item.result c.played-item.is c.loop-played-test.true)
    (c.loop-played.invariant.2 e stands) in
    let run = has_ended blocks e patterns c.args.progress.now rest c.run_next.new.progress c.run_next.new.draft c.in-Ok-true.field-0
    c.in-Ok-true.field-0-test (c.in-Ok-true.ensures.runs e patterns c.args.progress.now rest stands running) in
    (has_none blocks e patterns c.args.progress.now.walked (drafted c.run_next.new.draft) c.run_next.new.progress.walked run.played, run)

pub returns-in-Err-clause-runs : goal.returns-in-Err-clause-runs
returns-in-Err-clause-runs c = λ e stands.
    let patterns = played_in c.args.order.now in
    c.in-Err.ensures.runs e patterns c.args.progress.now (drop (c.loop-played.played-index + 1) patterns) stands
    (subst (λ (ps : List Played). IsRunning c.args.standing.now.blocks.now e patterns c.args.progress.now ps c.loop-played.progress c.loop-played.draft)
    (rest_at c.args.order.now c.loop-played.played-index c.played-item.result c.played-item.is c.loop-played-test.true)
    (c.loop-played.invariant.2 e stands))

pub loop-played-preserved : goal.loop-played-preserved
loop-played-preserved c = (
  c.in-Ok-false.ensures.carried,
  c.in-Ok-false.ensures.even,
  λ e stands.
      let patterns = played_in c.args.order.now in
      let rest = drop (c.loop-played.played-index + 1) patterns in
      goes_further c.args.standing.now.blocks.now e patterns c.args.progress.now rest c.run_next.new.progress c.run_next.new.draft
      c.in-Ok-false.field-0 c.in-Ok-false.field-0-test
      (c.in-Ok-false.ensures.runs e patterns c.args.progress.now rest stands
      (subst (λ (ps : List Played). IsRunning c.args.standing.now.blocks.now e patterns c.args.progress.now ps c.loop-played.progress c.loop-played.draft)
      (rest_at c.args.order.now c.loop-played.played-index c.played-item.result c.played-item.is c.loop-played-test.true)
      (c.loop-played.invariant.2 e stands))),
)

pub returns-clause-carried : goal.returns-clause-carried
returns-clause-carried c = c.loop-played.invariant.0

pub returns-clause-even : goal.returns-clause-even
returns-clause-even c = c.loop-played.invariant.1

pub returns-clause-runs : goal.returns-clause-runs
returns-clause-runs c = λ e stands.
    let patterns = played_in c.args.order.now in
    run_ends c.args.standing.now.blocks.now e patterns c.args.progress.now c.loop-played.progress c.loop-played.draft
    (subst (λ (ps : List Played). IsRunning c.args.standing.now.blocks.now e patterns c.args.progress.now ps c.loop-played.progress c.loop-played.draft)
    (rest_none c.args.order.now c.loop-played.played-index c.loop-played-test.false)
    (c.loop-played.invariant.2 e stands))
