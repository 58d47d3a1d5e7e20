use Rattle.std.proofs.Common.{◌≡◌, ◌≤◌, take}
use Rattle.code_listing.specs.Text.{cycles_among}
use Rattle.text_commands.proofs.few_cycles.crossing.Given as goal

-- up to the executives so far there aren't too many cycles
abbrev pub invariant-loop-exec : goal.invariant-loop-exec
invariant-loop-exec l = record {
  counted : l.total ≡ cycles_among (take l.exec l.code.execs);
  few : l.total ≤ 65536;
}
