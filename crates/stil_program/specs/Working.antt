-- What the code computes on its way; no public clause cites it.
use Rattle.std.specs.Prelude.{◌≡◌, ℕ, List, map, Option, Some, Result, Ok, Err}
use Rattle.stil_ast.specs.Faults.TextFaults.{blocks_fault}
use Rattle.stil_ast.specs.declared.blocks.Blocks.{Blocks}
use Rattle.stil_ast.specs.declared.fault.StilFault.{StilFault}
use Rattle.stil_ast.specs.Data.Refusal.{StilRefusal}
use Rattle.answers.specs.declared.short.Short.TheVariants as refusal
use Rattle.time_expr.specs.TimesOf.{times_of}
use Rattle.stil_ast.specs.declared.executive.ExecDecl.{ExecDecl}
use Rattle.stil_program.specs.Program.{IsTextFault, IsBlocksCode}
use Rattle.stil_program.specs.declared.text.CompiledText.{CompiledText}

-- the first fault of blocks
unfoldable pub first_fault : Blocks → Option StilFault
first_fault blocks = blocks_fault times_of blocks

-- the code of blocks, with the lines of their executives
pub record IsCompiledOf (blocks : Blocks) (c : CompiledText) : Type 0 where
  pub compiled : IsBlocksCode blocks c.code
  pub lines_are : c.lines.items ≡ map (λ (e : ExecDecl). e.line) blocks.executives

-- what is wanted of a text without a fault, or its first fault, or want of memory
abbrev pub Answers : {A : Type 0} → List ℕ → (A → Type 0) → Result A StilRefusal → Type 0
Answers bytes Wanted (Ok x) = Wanted x
Answers bytes Wanted (Err refusal.NoMemory) = Unit {0}
Answers bytes Wanted (Err (refusal.Fault fault)) = IsTextFault bytes (Some fault)
