use Rattle.std.proofs.Common.{ℕ, [], ◌∷◌, ◌++◌, sym, ap, ◌∙◌}
use Rattle.packed_code.specs.declared.instr.Instr.{Instr}
use Rattle.flat_parts.specs.Order.{run_table, firsts}
use Rattle.flat_stil.proofs.OrderLemmas.{firsts_push}
use Rattle.flat_stil.proofs.order.add_table.Goals as goal

pub returns-in_ok-add-in-Run : goal.returns-in_ok-add-in-Run
returns-in_ok-add-in-Run c = λ before is.
    firsts_push before c.args.tables.now c.add.new.self c.from.result is c.in_ok-add-in-Run.ensures
    ∙ ap (λ (n : ℕ). firsts (before ++ n ∷ [])) c.from.ensures ∙ ap (λ (i : Instr). firsts (before ++ run_table i)) (sym c.in-Run.is)
