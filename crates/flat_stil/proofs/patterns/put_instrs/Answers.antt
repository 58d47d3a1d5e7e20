use Rattle.std.proofs.Common.{sym, ap, ◌∙◌}
use Rattle.flat_stil.specs.Working.{prints}
use Rattle.packed_code.specs.declared.instr.Instr.{Instr}
use Rattle.flat_parts.specs.FlatText.{instr_lines}
use Rattle.flat_stil.proofs.SheetLemmas.{prints_nothing, lines_step}
use Rattle.flat_stil.proofs.patterns.put_instrs.Goals as goal

pub loop-instr-init : goal.loop-instr-init
loop-instr-init c = sym (prints_nothing c.args.sheet.now)

pub loop-instr-preserved : goal.loop-instr-preserved
loop-instr-preserved c =
    lines_step (instr_lines c.args.code.now) c.args.sheet.now c.loop-instr.sheet _ c.args.instrs.now c.loop-instr.instr-index _ c.instr-item.result
    c.loop-instr-test.true c.instr-item.is c.loop-instr.invariant
    (c.put_instr.ensures ∙ ap (λ (i : Instr). prints c.loop-instr.sheet (instr_lines c.args.code.now i)) c.instr.ensures)
