-- What is answered of the chains of an executive.
use Rattle.std.specs.Prelude.{◌≡◌, ℕ, List, Option, Some, Result}
use Rattle.answers.specs.Answers.{Finds}
use Rattle.stil_ast.specs.Meaning.Signals.{names_of}
use Rattle.stil_ast.specs.Meaning.Chains.{Chain, chains_named, chains_of, chains_fault}
use Rattle.stil_ast.specs.Meaning.Bursts.{exec_scans}
use Rattle.stil_ast.specs.declared.blocks.Blocks.{Blocks}
use Rattle.stil_ast.specs.declared.executive.ExecDecl.{ExecDecl}
use Rattle.stil_ast.specs.declared.fault.StilFault.{StilFault}
use Rattle.stil_ast.specs.Data.Refusal.{StilRefusal}
use Rattle.answers.specs.declared.short.Short.TheVariants as refusal

-- the chains of the ScanStructures of a name
abbrev pub chains_titled : Blocks → List ℕ → List Chain
chains_titled blocks title = chains_of (names_of blocks) (chains_named blocks.scans title)

-- and their first fault
abbrev pub titled_fault : Blocks → List ℕ → Option StilFault
titled_fault blocks title = chains_fault (names_of blocks) title (chains_named blocks.scans title)

-- the first fault of the chains of an executive
abbrev pub chain_list_fault : Blocks → ExecDecl → Option StilFault
chain_list_fault blocks e =
    chains_fault (names_of blocks) (exec_scans blocks e) (chains_named blocks.scans (exec_scans blocks e))

-- the fault by which an executive is refused for its chains
pub record IsChainFault (blocks : Blocks) (e : ExecDecl) (r : StilRefusal) : Type 0 where
  pub fault : StilFault
  pub is : r ≡ refusal.Fault fault
  pub first : chain_list_fault blocks e ≡ Some fault

-- the chains of the ScanStructures of a name, or their first fault, or want of memory
abbrev pub Scans : Blocks → List ℕ → Result (List Chain) StilRefusal → Type 0
Scans blocks title result = Finds (titled_fault blocks title) (λ chains. chains ≡ chains_titled blocks title) result
