use Rattle.std.proofs.Common.{◌≡◌, ◌++◌, drop}
use Rattle.stil_ast.specs.Meaning.Chains.{cells_of}
use Rattle.scan_chain.proofs.CellLemmas.{cells_in_names}
use Rattle.scan_chain.proofs.making.cells_of.Given as goal

abbrev pub invariant-loop-cell : goal.invariant-loop-cell
invariant-loop-cell l =
    l.texts.items ++ cells_in_names (drop l.cell-index l.cell-items) ≡ cells_of l.fn.cells
