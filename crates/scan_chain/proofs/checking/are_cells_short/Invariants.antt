use Rattle.std.proofs.Common.{◌≡◌, ℕ, List, drop, length}
use Rattle.std.specs.Prelude.{nat_le}
use Rattle.std.specs.List.{list_all}
use Rattle.text_bytes.specs.Limits.{longest_name}
use Rattle.stil_ast.specs.Meaning.Chains.{cells_of}
use Rattle.scan_chain.proofs.CellLemmas.{cells_in_names}
use Rattle.scan_chain.proofs.checking.are_cells_short.Given as goal

abbrev pub invariant-loop-cell : goal.invariant-loop-cell
invariant-loop-cell l =
    list_all (λ (text : List ℕ). nat_le (length text) longest_name) (cells_in_names (drop l.cell-index l.cell-items))
    ≡ list_all (λ (text : List ℕ). nat_le (length text) longest_name) (cells_of l.fn.cells)
