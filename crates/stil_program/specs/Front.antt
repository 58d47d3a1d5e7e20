-- What reading answers of the bytes of a text: the first fault of its tokens, else of its statements, else of its
-- blocks; or its blocks.
use Rattle.std.specs.Prelude.{◌≡◌, ℕ, List, Result, Ok, Err}
use Rattle.stil_lex.specs.declared.token.Token.{Token}
use Rattle.stil_lex.specs.Tokens.{Reads}
use Rattle.stil_tree.specs.Trees.{Trees, entries}
use Rattle.stil_tree.specs.Grammar.{Parses}
use Rattle.stil_ast.specs.declared.blocks.Blocks.{Blocks}
use Rattle.stil_ast.specs.declared.fault.StilFault.{StilFault}
use Rattle.stil_ast.specs.Data.Refusal.{StilRefusal}
use Rattle.answers.specs.declared.short.Short.TheVariants.{NoMemory, Fault}
use Rattle.stil_ast.specs.Faults.FrontFaults.{Front, refused_by, read_as}
use Rattle.stil_read.specs.Top.{blocks_of}
use Rattle.stil_read.specs.Text.{IsFaultOf}
use Rattle.stil_program.specs.TokenFaults.{IsTokenFault}
use Rattle.stil_program.specs.StatementFaults.{IsStatementFault}

-- the text has tokens, which are statements, which are these blocks
pub record IsReadAs (bytes : List ℕ) (blocks : Blocks) : Type 0 where
  pub tokens : List Token
  pub forest : Trees
  pub reads : Reads bytes tokens
  pub parses : Parses tokens forest
  pub are : blocks_of bytes tokens (entries forest) ≡ Ok blocks

-- the first fault of a text
pub data IsFirstFault (bytes : List ℕ) (fault : StilFault) : Type 0 where
  -- it has no tokens
  of_tokens : IsTokenFault bytes fault → IsFirstFault bytes fault
  -- it has tokens, which are no statements
  of_statements : (tokens : List Token) → Reads bytes tokens → IsStatementFault bytes tokens fault
      → IsFirstFault bytes fault
  -- it has statements, which are no blocks
  of_blocks : (tokens : List Token) (forest : Trees) → Reads bytes tokens → Parses tokens forest
      → IsFaultOf bytes tokens (entries forest) fault → IsFirstFault bytes fault

-- what reading answers
abbrev pub IsFront : List ℕ → Front → Type 0
IsFront bytes (refused_by fault) = IsFirstFault bytes fault
IsFront bytes (read_as blocks) = IsReadAs bytes blocks

-- why a text is refused
abbrev pub IsRefusedFor : List ℕ → StilRefusal → Type 0
IsRefusedFor bytes NoMemory = ⊥
IsRefusedFor bytes (Fault fault) = IsFront bytes (refused_by fault)

-- what a reader of bytes answers
abbrev pub FrontAnswers : List ℕ → Result Blocks StilRefusal → Type 0
FrontAnswers bytes (Ok blocks) = IsReadAs bytes blocks
FrontAnswers bytes (Err NoMemory) = Unit {0}
FrontAnswers bytes (Err (Fault fault)) = IsFirstFault bytes fault
