use Rattle.std.proofs.Common.{◌∙◌, Bool, arith, refl, subst}
use Rattle.word_run.specs.Run.{RunsExec}
use Rattle.word_run.proofs.RunLemmas.{left_first, left_next, ends_here, ends_behind}
use Rattle.word_run.proofs.run.run_all.Goals as goal

pub loop-exec-init : goal.loop-exec-init
loop-exec-init c = record {
  before = c.requires.before;
  count = refl;
  lanes = λ lane device going low here stands. left_first c.args.setup.now c.args.player.now lane device going stands;
}

pub returns-then-branch : goal.returns-then-branch
returns-then-branch c =
    let old = c.loop-exec.invariant in
    let found = subst (λ (b : Bool). RunsExec c.args.setup.now c.loop-exec.exec c.loop-exec.player c.run_exec.new.player b) c.if-branch.true
    c.in_ok-run_exec.ensures in
    record {
      count = found.count ∙ old.count;
      lanes = λ lane device going low here stands.
          ends_here c.args.setup.now c.loop-exec.exec lane c.args.player.now c.loop-exec.player c.run_exec.new.player device going
          (omega (arith, c.loop-exec-test.true, c.execs-exec-end.ensures)) low (omega (arith, here, old.count))
          (old.lanes lane device going low here stands) found;
    }

pub loop-exec-preserved : goal.loop-exec-preserved
loop-exec-preserved c =
    let old = c.loop-exec.invariant in
    let played = subst (λ (b : Bool). RunsExec c.args.setup.now c.loop-exec.exec c.loop-exec.player c.run_exec.new.player b) c.if-branch.false
    c.in_ok-run_exec.ensures in
    record {
      before = played.before;
      count = played.plays.count ∙ old.count;
      lanes = λ lane device going low here stands.
          left_next c.args.setup.now c.loop-exec.exec lane c.args.player.now c.loop-exec.player c.run_exec.new.player device going
          (omega (arith, c.loop-exec-test.true, c.execs-exec-end.ensures)) low (omega (arith, here, old.count))
          (old.lanes lane device going low here stands) played;
    }

pub returns : goal.returns
returns c =
    let old = c.loop-exec.invariant in
    record {
      count = old.count;
      lanes = λ lane device going low here stands.
          ends_behind c.args.setup.now c.loop-exec.exec lane c.args.player.now c.loop-exec.player device going
          (omega (arith, c.loop-exec-test.false, c.execs-exec-end.ensures)) (old.lanes lane device going low here stands);
    }
