-- What is told of a fault: its kind, its line, and the top-level statement in which it stands.
use Rattle.std.specs.Prelude.{◌≡◌, ℕ, ◌+◌, List, [], take, slice_get, Option, Some, None, Result, Ok, Err}
use Rattle.std.specs.Option.{option_map_or}
use Rattle.stil_lex.specs.declared.token.Token.{Token}
use Rattle.stil_lex.specs.Text.{text_of}
use Rattle.stil_tree.specs.Trees.{Trees}
use Rattle.stil_tree.specs.Blocks.{IsBlock, name_if}
use Rattle.stil_form.specs.declared.fault.FormKind.{FormKind}
use Rattle.stil_form.specs.declared.fault.FormKind.TheVariants as kind
use Rattle.stil_form.specs.declared.fault.FormFault.{FormFault}
use Rattle.stil_form.specs.declared.fault.FormFault.TheVariants as form
use Rattle.stil_form.specs.declared.fault.FormFault.TheVariants.{Refused}
use Rattle.stil_ast.specs.declared.fault.StilKind.{StilKind}
use Rattle.stil_ast.specs.declared.fault.StilKind.TheVariants as stil
use Rattle.stil_ast.specs.declared.fault.StilFault.{StilFault}
use Rattle.stil_ast.specs.Data.Refusal.{StilRefusal}
use Rattle.answers.specs.declared.short.Short.TheVariants.{NoMemory, Fault}
use Rattle.stil_ast.specs.Data.Written.{Written}
use Rattle.pat_read.specs.declared.reader.BodyPlace.{BodyPlace}
use Rattle.stil_form.specs.Setting.{Setting, line_at}
use Rattle.pat_read.specs.Body.{body_of}

-- the kind of a fault of a form
abbrev pub stil_kind : FormKind → StilKind
stil_kind kind.NoHeader = stil.NoHeader
stil_kind kind.Shape = stil.Shape
stil_kind kind.LeftOut = stil.LeftOut
stil_kind kind.OutOfRange = stil.OutOfRange
stil_kind kind.Twice = stil.Twice
stil_kind kind.NoExec = stil.NoExec

-- the text of the token at an index, or nothing
abbrev pub text_at : List ℕ → List Token → Option ℕ → List ℕ
text_at bytes tokens None = []
text_at bytes tokens (Some index) = option_map_or (text_of bytes) (slice_get tokens index) []

-- the index of the name of the top-level statement with this keyword: its second token, where that is a Word or a Name
abbrev pub name_behind : List Token → Option ℕ → Option ℕ
name_behind tokens None = None
name_behind tokens (Some index) = name_if (slice_get tokens (index + 1)) (index + 1)

-- what is told of a fault of the statement with this first token: the block is the top-level statement that is open
-- behind the token
pub record IsTold (bytes : List ℕ) (tokens : List Token) (kind : FormKind) (first : ℕ) (fault : StilFault) : Type 0
  where
    pub found : Option ℕ × Option ℕ
    pub is_block : IsBlock (take (first + 1) tokens) found
    pub is_kind : fault.kind ≡ stil_kind kind
    pub is_keyword : fault.block ≡ text_at bytes tokens found.0
    pub is_name : fault.name ≡ text_at bytes tokens (name_behind tokens found.0)
    pub is_line : fault.line ≡ line_at tokens first

-- the fault of a body is this one: that of the first statement in text order that is refused
pub record IsFaultOf (s : Setting) (here : BodyPlace) (stmts : Trees) (fault : StilFault) : Type 0 where
  pub kind : FormKind
  pub first : ℕ
  pub refused : body_of s here stmts ≡ Err (Refused kind first)
  pub told : IsTold s.bytes s.tokens kind first fault

-- why a body is refused
abbrev pub IsBodyFault : Setting → BodyPlace → Trees → StilRefusal → Type 0
IsBodyFault s here stmts NoMemory = ⊥
IsBodyFault s here stmts (Fault fault) = IsFaultOf s here stmts fault

-- what a reader of bodies answers
abbrev pub BodyAnswers : Setting → BodyPlace → Trees → Result Written StilRefusal → Type 0
BodyAnswers s here stmts (Ok read) = body_of s here stmts ≡ Ok read
BodyAnswers s here stmts (Err NoMemory) = Unit {0}
BodyAnswers s here stmts (Err (Fault fault)) = IsFaultOf s here stmts fault

-- a refusal tells of this fault, or of want of memory
abbrev pub Tells : List ℕ → List Token → FormFault → StilRefusal → Type 0
Tells bytes tokens fault NoMemory = Unit {0}
Tells bytes tokens form.NoMemory (Fault told) = ⊥
Tells bytes tokens (Refused kind first) (Fault told) = IsTold bytes tokens kind first told
