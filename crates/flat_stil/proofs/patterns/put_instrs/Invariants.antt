use Rattle.std.proofs.Common.{◌≡◌, take}
use Rattle.std.specs.List.{flat_map}
use Rattle.flat_parts.specs.FlatText.{instr_lines}
use Rattle.flat_stil.specs.Working.{prints}
use Rattle.flat_stil.proofs.patterns.put_instrs.Given as goal

abbrev pub invariant-loop-instr : goal.invariant-loop-instr
invariant-loop-instr l = l.sheet ≡ prints l.fn.sheet (flat_map (instr_lines l.code) (take l.instr-index l.instrs))
