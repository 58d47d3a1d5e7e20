use Rattle.std.proofs.Common.{◌≡◌, ℕ, List, ◌++◌, take}
use Rattle.std.specs.List.{flat_map}
use Rattle.flat_parts.specs.Order.{run_table, firsts}
use Rattle.flat_stil.proofs.order.add_tables.Given as goal

abbrev pub invariant-loop-instr : goal.invariant-loop-instr
invariant-loop-instr l =
    (before : List ℕ) → l.fn.tables ≡ firsts before → l.tables ≡ firsts (before ++ flat_map run_table (take l.instr-index l.instrs))
