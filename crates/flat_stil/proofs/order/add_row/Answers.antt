use Rattle.std.proofs.Common.{◌++◌, sym, ap, ◌∙◌}
use Rattle.packed_code.specs.declared.instr.Instr.{Instr}
use Rattle.flat_parts.specs.Order.{run_row, firsts}
use Rattle.flat_stil.proofs.OrderLemmas.{firsts_push}
use Rattle.flat_stil.proofs.order.add_row.Goals as goal

pub returns-in_ok-add-in-Run : goal.returns-in_ok-add-in-Run
returns-in_ok-add-in-Run c = λ before is.
    firsts_push before c.args.rows.now c.add.new.self c.in-Run.row is c.in_ok-add-in-Run.ensures
    ∙ ap (λ (i : Instr). firsts (before ++ run_row i)) (sym c.in-Run.is)
