use Rattle.std.proofs.Common.{ap, ◌∙◌, ℕ, List, [], ◌∷◌}
use Rattle.std.specs.Prelude.{codes}
use Rattle.std.specs.List.{flat_map}
use Rattle.flat_stil.specs.Working.{prints}
use Rattle.packed_code.specs.declared.instr.Instr.{Instr}
use Rattle.packed_code.specs.Cycles.{exec_of}
use Rattle.flat_parts.specs.FlatText.{opening, instr_lines}
use Rattle.flat_stil.proofs.SheetLemmas.{block_written}
use Rattle.flat_stil.proofs.patterns.put_pattern.Goals as goal

pub returns : goal.returns
returns c =
    block_written c.args.sheet.now c.begin.new.self c.put_instrs.new.sheet c.close.new.self (opening (codes "Pattern \"p") c.args.exec)
    (flat_map (instr_lines c.args.code.now) (exec_of c.args.code.now c.args.exec).instrs)
    (c.begin.ensures ∙ ap (λ (n : ℕ). prints c.args.sheet.now (opening (codes "Pattern \"p") n ∷ [])) c.from.ensures)
    (c.put_instrs.ensures ∙ ap (λ (is : List Instr). prints c.begin.new.self (flat_map (instr_lines c.args.code.now) is)) c.instructions.ensures)
    c.close.ensures
