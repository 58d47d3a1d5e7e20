use Rattle.std.proofs.Common.{◌∙◌, Bool, arith, refl, subst}
use Rattle.std.specs.Prelude.{None}
use Rattle.packed_code.specs.Cycles.{cycles_of}
use Rattle.die_sim.specs.Socket.{holding}
use Rattle.cycle_run.specs.Batch.{going_in}
use Rattle.cycle_run.specs.Setup.{code_in, stand_in}
use Rattle.cycle_run.specs.Seat.{between_of}
use Rattle.fault_grade.specs.Search.{first_in, RunsUpTo, GoesOn}
use Rattle.fault_grade.proofs.SearchLemmas.{begins, ends_here, goes_on, ends_clear}
use Rattle.fault_grade.proofs.search.run_all.Goals as goal

pub loop-exec-init : goal.loop-exec-init
loop-exec-init c =
    let setup = c.args.setup.now in
    let starts = c.requires.starts in
    record {
      rest = begins (code_in setup) setup.skews.now setup.image.now
          (going_in (between_of (holding c.args.socket.now None 0) c.args.at.now)) starts.going;
      before = starts.before;
      loaded = refl;
    }

pub returns-then-branch-clause-first : goal.returns-then-branch-clause-first
returns-then-branch-clause-first c =
    let setup = c.args.setup.now in
    let exec = c.loop-exec.exec in
    let old = between_of (holding c.loop-exec.socket None 0) c.loop-exec.at in
    let new = between_of (holding c.run_exec.new.socket None 0) c.run_exec.new.at in
    ends_here (code_in setup) (stand_in setup) exec old new (first_in setup)
    (omega (arith, c.loop-exec-test.true, c.execs-exec-end.ensures)) c.loop-exec.invariant.rest
    (subst (λ (b : Bool). RunsUpTo (stand_in setup) exec (cycles_of (code_in setup) exec) old new b) c.if-branch.true
    c.in_ok-run_exec.ensures.runs)

pub loop-exec-preserved : goal.loop-exec-preserved
loop-exec-preserved c =
    let setup = c.args.setup.now in
    let exec = c.loop-exec.exec in
    let old = between_of (holding c.loop-exec.socket None 0) c.loop-exec.at in
    let now = holding c.run_exec.new.socket None 0 in
    let new = between_of now c.run_exec.new.at in
    let made = c.in_ok-run_exec.ensures in
    record {
      rest = goes_on (code_in setup) (stand_in setup) exec old new (first_in setup)
          (omega (arith, c.loop-exec-test.true, c.execs-exec-end.ensures)) c.loop-exec.invariant.rest
          (subst (λ (b : Bool). RunsUpTo (stand_in setup) exec (cycles_of (code_in setup) exec) old new b) c.if-branch.false made.runs);
      before = subst (λ (b : Bool). GoesOn setup exec c.run_exec.new.schedules now c.run_exec.new.at b) c.if-branch.false made.goes_on;
      loaded = made.loaded ∙ c.loop-exec.invariant.loaded;
    }

pub returns-clause-first : goal.returns-clause-first
returns-clause-first c =
    let setup = c.args.setup.now in
    let exec = c.loop-exec.exec in
    ends_clear (code_in setup) (stand_in setup) exec (between_of (holding c.loop-exec.socket None 0) c.loop-exec.at) (first_in setup)
    (omega (arith, c.loop-exec-test.false, c.execs-exec-end.ensures)) c.loop-exec.invariant.rest c.loop-exec.invariant.before.seen
