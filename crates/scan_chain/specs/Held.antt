-- How the code holds chains, and the data of a Shift.
use Rattle.std.specs.Prelude.{ℕ, ◌==◌, Bool, List, [], ◌∷◌, Option, Some, None, map, max, slice_index_or}
use Rattle.std.specs.List.{list_any}
use Rattle.std.specs.Borrow.{Bor}
use Rattle.stil_ast.specs.Meaning.Arguments.{Entry, padding}
use Rattle.stil_ast.specs.Meaning.Chains.{Chain, cells_of}
use Rattle.stil_ast.specs.declared.scan.CellsDecl.{CellsDecl}
use Rattle.scan_chain.specs.declared.chain.ScanChain.{ScanChain}

-- a chain that is held
abbrev pub chain_in : ScanChain → Chain
chain_in c = record { name = c.name; scan_out = c.scan_out; length = c.length; cells = c.cells }

-- the chain behind a reference
abbrev pub chain_behind : Bor ScanChain → Chain
chain_behind c = chain_in c.now

-- chains that are held
abbrev pub chains_in : List ScanChain → List Chain
chains_in chains = map chain_in chains

-- the cells of a statement that may be missing
abbrev pub cells_if : Option (Bor CellsDecl) → List (List ℕ)
cells_if None = []
cells_if (Some c) = cells_of c.now

-- the greatest of some numbers, 0 where there is none
abbrev pub greatest : List ℕ → ℕ
greatest [] = 0
greatest (n ∷ ns) = max n (greatest ns)

-- the entry at a place, which may be missing
abbrev pub entry_at : List Entry → Option ℕ → Entry
entry_at entries None = padding
entry_at entries (Some place) = slice_index_or entries place padding

-- whether a chain ends at a signal
abbrev pub is_end : List Chain → ℕ → Bool
is_end chains signal = list_any (λ (c : Chain). c.scan_out == signal) chains
