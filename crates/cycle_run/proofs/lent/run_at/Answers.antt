use Rattle.std.proofs.Common.{◌∙◌, subst}
use Rattle.std.proofs.lemmas.Option.{get_or_from_slice_get}
use Rattle.packed_code.specs.declared.instr.Instr.{Instr}
use Rattle.packed_code.specs.declared.instr.Instr.TheVariants.{Done}
use Rattle.packed_code.specs.Conditions.{IsInstr}
use Rattle.packed_code.specs.Cycles.{exec_of}
use Rattle.packed_code.proofs.Lists.{each_at}
use Rattle.packed_code.proofs.WalkLemmas.{exec_is}
use Rattle.cycle_run.proofs.lent.run_at.Goals as goal

pub returns-in-Run : goal.returns-in-Run
returns-in-Run c =
    let code = c.args.code.now in
    let instrs = (exec_of code c.args.exec).instrs in
    let fits = exec_is code c.args.exec c.signals-signals.ensures.conditions c.requires.exec in
    let found = get_or_from_slice_get instrs c.args.place c.instr.result Done c.instr.ensures in
    let named = subst (λ (i : Instr). IsInstr code.tables code.rows i) (found ∙ c.in-Run.is)
    (each_at (IsInstr code.tables code.rows) instrs c.args.place Done fits.instrs c.requires.place) in
    record { table = named.0; row = named.1; waves = named.3 }
