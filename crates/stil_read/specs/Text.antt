-- What is told of a text's first fault of its blocks: its kind, its line, and the top-level statement in which it
-- stands.
use Rattle.std.specs.Prelude.{◌≡◌, ℕ, List, [], ◌∷◌, Result, Ok, Err}
use Rattle.stil_lex.specs.declared.token.Token.{Token}
use Rattle.stil_tree.specs.Trees.{Entry}
use Rattle.stil_form.specs.declared.fault.FormKind.{FormKind}
use Rattle.stil_form.specs.declared.fault.FormKind.TheVariants.{NoExec}
use Rattle.stil_form.specs.declared.fault.FormFault.TheVariants as form
use Rattle.stil_ast.specs.declared.blocks.Blocks.{Blocks}
use Rattle.stil_ast.specs.declared.executive.ExecDecl.{ExecDecl}
use Rattle.stil_ast.specs.declared.fault.StilFault.{StilFault}
use Rattle.stil_ast.specs.Data.Refusal.{StilRefusal}
use Rattle.answers.specs.declared.short.Short.TheVariants.{NoMemory, Fault}
use Rattle.pat_read.specs.Refusal.{stil_kind, IsTold}
use Rattle.stil_read.specs.Top.{TextFault, in_statement, nowhere, blocks_of}

-- what is told of a fault that stands in no statement
abbrev pub told_nowhere : FormKind → StilFault
told_nowhere kind = record { kind = stil_kind kind; block = []; name = []; line = 1 }

-- what is told of a text's fault
abbrev pub IsToldOf : List ℕ → List Token → TextFault → StilFault → Type 0
IsToldOf bytes tokens (in_statement form.NoMemory) fault = ⊥
IsToldOf bytes tokens (in_statement (form.Refused kind first)) fault = IsTold bytes tokens kind first fault
IsToldOf bytes tokens (nowhere kind) fault = fault ≡ told_nowhere kind

-- the fault of a text is this one: that of the first statement in text order that is refused, or want of a header or an
-- executive
pub record IsFaultOf (bytes : List ℕ) (tokens : List Token) (stmts : List Entry) (fault : StilFault) : Type 0 where
  pub which : TextFault
  pub refused : blocks_of bytes tokens stmts ≡ Err which
  pub told : IsToldOf bytes tokens which fault

-- why a text is refused
abbrev pub IsTextFault : List ℕ → List Token → List Entry → StilRefusal → Type 0
IsTextFault bytes tokens stmts NoMemory = ⊥
IsTextFault bytes tokens stmts (Fault fault) = IsFaultOf bytes tokens stmts fault

-- what a reader of a text's blocks answers
abbrev pub TextAnswers : List ℕ → List Token → List Entry → Result Blocks StilRefusal → Type 0
TextAnswers bytes tokens stmts (Ok read) = blocks_of bytes tokens stmts ≡ Ok read
TextAnswers bytes tokens stmts (Err NoMemory) = Unit {0}
TextAnswers bytes tokens stmts (Err (Fault fault)) = IsFaultOf bytes tokens stmts fault

-- what is answered where all statements are read: the blocks, if there is an executive
abbrev pub ended_with : Blocks → List ExecDecl → Result Blocks StilRefusal
ended_with blocks [] = Err (Fault (told_nowhere NoExec))
ended_with blocks (e ∷ es) = Ok blocks
