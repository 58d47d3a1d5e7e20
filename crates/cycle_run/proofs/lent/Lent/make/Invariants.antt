use Rattle.cycle_run.specs.Lent.{HoldsMoments}
use Rattle.cycle_run.proofs.lent.Lent.make.Given as goal

-- what is held stays right
abbrev pub invariant-loop-exec : goal.invariant-loop-exec
invariant-loop-exec l = HoldsMoments l.code l.skews l.lent
