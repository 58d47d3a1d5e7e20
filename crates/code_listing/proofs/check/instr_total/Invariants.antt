use Rattle.std.proofs.Common.{◌≡◌, ◌≤◌, ◌*◌, take}
use Rattle.code_listing.specs.Text.{instrs_among}
use Rattle.code_listing.proofs.check.instr_total.Given as goal

-- the executives so far are counted, each with at most 2 ^ 22 + 1 instructions
abbrev pub invariant-loop-exec : goal.invariant-loop-exec
invariant-loop-exec l = record {
  counted : l.total ≡ instrs_among (take l.exec l.code.execs);
  few : l.total ≤ l.exec * 4194305;
}
