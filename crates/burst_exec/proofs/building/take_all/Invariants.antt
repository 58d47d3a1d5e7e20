use Rattle.burst_exec.specs.Carried.{IsCarried}
use Rattle.burst_exec.specs.Gathered.{IsGathering}
use Rattle.burst_exec.proofs.building.take_all.Given as goal

abbrev pub invariant-loop-exec : goal.invariant-loop-exec
invariant-loop-exec l = IsCarried l.names l.progress × IsGathering l.names l.exec l.progress l.execs.items
