use Rattle.std.proofs.Common.{◌≡◌, ◌≤◌, ◌*◌, take}
use Rattle.code_listing.specs.Text.{cycles_among}
use Rattle.code_listing.proofs.check.cycle_total.Given as goal

-- the executives so far are counted, each with at most 2 ^ 48 cycles
abbrev pub invariant-loop-exec : goal.invariant-loop-exec
invariant-loop-exec l = record {
  counted : l.total ≡ cycles_among (take l.exec l.code.execs);
  few : l.total ≤ l.exec * 281474976710656;
}
