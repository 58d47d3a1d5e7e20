use Rattle.stil_lex.proofs.SlowFaults.{NoneBadBelow}
use Rattle.stil_lex.proofs.slow_faults.bad_quoted.Given as goal

abbrev pub invariant-loop-skipped : goal.invariant-loop-skipped
invariant-loop-skipped l = NoneBadBelow l.skipped l.text
