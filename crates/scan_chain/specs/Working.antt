-- The same as machines: what the code keeps from chain to chain. The definitions are in Meaning.Chains of stil_ast;
-- both give one result (`distinct_behind-none`, `faults_behind-none`).
use Rattle.std.specs.Prelude.{ℕ, ◌==◌, List, [], ◌∷◌, ◌++◌, Option, None, flat_map, if◌then◌else◌}
use Rattle.std.specs.List.{list_any}
use Rattle.stil_ast.specs.Faults.Found.{or_else}
use Rattle.stil_ast.specs.Meaning.Signals.{Names}
use Rattle.stil_ast.specs.Meaning.Chains.{Chain, out_in, scan_out_of, chain_with, chain_fault}
use Rattle.stil_ast.specs.declared.scan.ChainDecl.{ChainDecl}
use Rattle.stil_ast.specs.declared.fault.StilFault.{StilFault}

-- chains behind others, of two with one ScanOut the first
abbrev pub distinct_behind : List Chain → List Chain → List Chain
distinct_behind before [] = before
distinct_behind before (c ∷ chains) =
    distinct_behind (if list_any (λ b. b.scan_out == c.scan_out) before then before else before ++ c ∷ []) chains

-- the chains of declarations
abbrev pub chains_behind : Names → List ChainDecl → List Chain
chains_behind names chains =
    distinct_behind [] (flat_map (λ (d : ChainDecl). chain_with d (scan_out_of names (out_in d.stmts))) chains)

-- the first fault of chains in text order, behind those before
abbrev pub faults_behind : Names → List ℕ → List ChainDecl → List ChainDecl → Option StilFault
faults_behind names block before [] = None
faults_behind names block before (d ∷ chains) =
    or_else (chain_fault names block before d) (faults_behind names block (before ++ d ∷ []) chains)
