use Rattle.std.proofs.Common.{sym, ap, ◌∙◌, [], List}
use Rattle.std.specs.List.{flat_map}
use Rattle.packed_code.specs.declared.instr.Instr.{Instr}
use Rattle.flat_parts.specs.Order.{run_table, firsts}
use Rattle.flat_stil.proofs.OrderLemmas.{firsts_nothing}
use Rattle.flat_stil.proofs.order.own_tables.Goals as goal

pub returns : goal.returns
returns c =
    c.in_ok-add_tables.ensures [] (c.in_ok-tables.ensures ∙ sym firsts_nothing)
    ∙ ap (λ (is : List Instr). firsts (flat_map run_table is)) c.instructions.ensures
