use Rattle.cycle_run.specs.Lent.{HoldsMoments}
use Rattle.cycle_run.proofs.lent.Lent.hold_exec.Given as goal

-- what is held stays right
abbrev pub invariant-loop-place : goal.invariant-loop-place
invariant-loop-place l = HoldsMoments l.code l.skews l.self
