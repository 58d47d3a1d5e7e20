-- Which cell of a chain a mark names (IEEE 1450-1999, clause 20).
use Rattle.std.specs.Prelude.{ℕ, ◌==◌, List, Option, find, option_map, option_and_then}
use Rattle.std.specs.Borrow.{Bor}
use Rattle.stil_ast.specs.Meaning.Chains.{Chain}
use Rattle.tester_types.specs.Cells.{marked_cell, Cell}

-- the chain that ends at a signal
abbrev pub chain_at : List Chain → ℕ → Option Chain
chain_at chains signal = find (λ (c : Chain). c.scan_out == signal) chains

-- the cell of a chain that a mark means
abbrev pub cell_in : ℕ → Chain → Option Cell
cell_in mark c = option_map (λ name. record { chain = c.name; name = name }) (marked_cell c.length c.cells mark)

-- the cell that a mark at a signal means
abbrev pub cell_of : List Chain → ℕ → ℕ → Option Cell
cell_of chains signal mark = option_and_then (cell_in mark) (chain_at chains signal)

-- a cell by references to both names
abbrev pub by_names : Bor (List ℕ) × Bor (List ℕ) → Cell
by_names names = record { chain = names.0.now; name = names.1.now }
