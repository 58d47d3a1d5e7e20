-- The texts of cells, and the chains of declarations, one after another.
use Rattle.std.proofs.Common.{ℕ, List}
use Rattle.std.specs.Prelude.{flat_map}
use Rattle.stil_ast.specs.Data.Texts.{names_with}
use Rattle.stil_ast.specs.Meaning.Signals.{Names}
use Rattle.stil_ast.specs.Meaning.Chains.{Chain, chain_with, scan_out_of, out_in}
use Rattle.stil_ast.specs.declared.name.NameRef.{NameRef}
use Rattle.stil_ast.specs.declared.scan.ChainDecl.{ChainDecl}

-- the texts of the cells of names
abbrev pub cells_in_names : List NameRef → List (List ℕ)
cells_in_names names = flat_map (λ (r : NameRef). names_with r.name r.range) names

-- the chains of declarations, before those that end at one signal are told apart
abbrev pub declared_chains : Names → List ChainDecl → List Chain
declared_chains names chains = flat_map (λ (d : ChainDecl). chain_with d (scan_out_of names (out_in d.stmts))) chains
