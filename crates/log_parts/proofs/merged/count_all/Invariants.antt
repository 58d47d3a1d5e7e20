use Rattle.std.proofs.Common.{◌≡◌, ◌≤◌, ◌*◌, ◌^◌, take}
use Rattle.log_parts.specs.Dealt.{dies_of}
use Rattle.log_parts.proofs.merged.count_all.Given as goal

abbrev pub invariant-loop-log : goal.invariant-loop-log
invariant-loop-log l = record {
  counted : l.dies ≡ dies_of (take l.log-index l.logs) l.bin;
  small : l.dies ≤ l.log-index * 2 ^ 64;
}
