use Rattle.std.proofs.Common.{◌≤◌}
use Rattle.stil_lex.proofs.SlowlyBack.{NoneBelow}
use Rattle.stil_lex.proofs.slow.first.Given as goal

abbrev pub invariant-loop-len : goal.invariant-loop-len
invariant-loop-len l = record {
  some : 1 ≤ l.len;
  none : NoneBelow l.len l.text;
}
