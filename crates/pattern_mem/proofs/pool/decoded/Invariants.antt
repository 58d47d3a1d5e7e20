use Rattle.std.proofs.Common.{◌≡◌, take}
use Rattle.pattern_mem.proofs.pool.decoded.Given as goal

abbrev pub invariant-loop-packed : goal.invariant-loop-packed
invariant-loop-packed l = l.instrs.items ≡ take l.packed-index l.packed-items
