use Rattle.std.proofs.Common.{◌≡◌, ℕ, List, ◌++◌, take}
use Rattle.std.specs.List.{flat_map}
use Rattle.flat_parts.specs.Order.{run_row, firsts}
use Rattle.flat_stil.proofs.order.add_rows.Given as goal

abbrev pub invariant-loop-instr : goal.invariant-loop-instr
invariant-loop-instr l =
    (before : List ℕ) → l.fn.rows ≡ firsts before → l.rows ≡ firsts (before ++ flat_map run_row (take l.instr-index l.instrs))
