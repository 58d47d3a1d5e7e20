use Rattle.std.proofs.Common.{◌≡◌, take}
use Rattle.packed_code.proofs.packed.pack.Given as goal

abbrev pub invariant-loop-instr : goal.invariant-loop-instr
invariant-loop-instr l = l.list.items ≡ take l.instr-index l.instrs
