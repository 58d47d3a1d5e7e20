use Rattle.std.proofs.Common.{◌∙◌, ap, sym}
use Rattle.packed_code.specs.Packed as packed
use Rattle.packed_code.specs.Packed.{or_done, unpacked}
use Rattle.packed_code.proofs.PackedLemmas.{instr_again}
use Rattle.packed_code.proofs.packed.PackedInstr.new.Goals as goal

pub returns : goal.returns
returns c = ap unpacked c.instr_bytes.ensures.bytes ∙ ap or_done (instr_again c.args.instr c.instr_bytes.ensures.narrow)

pub invariant_of-result : goal.invariant_of-result
invariant_of-result c = c.instr_bytes.ensures.bytes ∙ ap packed.instr (sym (returns c))
