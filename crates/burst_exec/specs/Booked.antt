-- Chains that are kept by the names of their ScanStructures.
use Rattle.std.specs.Prelude.{◌≡◌, ℕ, List, None}
use Rattle.stil_ast.specs.Meaning.Chains.{Chain}
use Rattle.stil_ast.specs.declared.blocks.Blocks.{Blocks}
use Rattle.scan_chain.specs.Fault.{chains_titled, titled_fault}
use Rattle.burst_exec.specs.Made.{AreMade}
use Rattle.burst_exec.specs.declared.chain_book.ChainBook.{ChainBook}

-- the chains of the ScanStructures of a name, which have no fault
abbrev pub AreChainsOf : Blocks → List ℕ → List Chain → Type 0
AreChainsOf blocks title chains = (titled_fault blocks title ≡ None) × (chains ≡ chains_titled blocks title)

-- each name that has a number has the chains of these blocks under it
abbrev pub AreBooked : Blocks → ChainBook → Type 0
AreBooked blocks b = AreMade (AreChainsOf blocks) b.places b.made.items
