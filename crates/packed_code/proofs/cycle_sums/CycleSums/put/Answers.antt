use Rattle.std.proofs.Common.{ap, ◌∙◌, sym, subst, length, ◌∷◌, map}
use Rattle.packed_code.specs.declared.instr.Instr.{Instr}
use Rattle.packed_code.specs.Meaning.{body_counts}
use Rattle.packed_code.specs.Count.{capped, HasRoom}
use Rattle.packed_code.proofs.CountLemmas.{run_put, loop_put, end_put, done_put}
use Rattle.packed_code.proofs.cycle_sums.CycleSums.put.Goals as goal

pub returns-in-Run : goal.returns-in-Run
returns-in-Run c = λ rest is.
    c.run.ensures ∙ run_put rest c.in-Run.table c.in-Run.row c.in-Run.mark c.in-Run.times c.args.self.now is
    ∙ ap (λ (i : Instr). map capped (body_counts (i ∷ rest))) (sym c.in-Run.is)

pub returns-in-Loop : goal.returns-in-Loop
returns-in-Loop c = λ rest is.
    c.close.ensures ∙ loop_put rest c.in-Loop.times c.args.self.now (subst (λ (i : Instr). HasRoom i (length c.args.self.now)) c.in-Loop.is c.requires).1 is
    ∙ ap (λ (i : Instr). map capped (body_counts (i ∷ rest))) (sym c.in-Loop.is)

pub returns-in-End : goal.returns-in-End
returns-in-End c = λ rest is.
    c.open.ensures ∙ end_put rest c.args.self.now is
    ∙ ap (λ (i : Instr). map capped (body_counts (i ∷ rest))) (sym c.in-End.is)

pub returns-in-Done : goal.returns-in-Done
returns-in-Done c = λ rest is.
    c.new.ensures ∙ done_put rest
    ∙ ap (λ (i : Instr). map capped (body_counts (i ∷ rest))) (sym c.in-Done.is)
