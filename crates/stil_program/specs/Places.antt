-- What is told of a fault at a place: its kind, its line, and the top-level statement that is open there.
use Rattle.std.specs.Prelude.{◌≡◌, ℕ, List, Option}
use Rattle.stil_lex.specs.declared.token.Token.{Token}
use Rattle.stil_tree.specs.Blocks.{IsBlock}
use Rattle.stil_ast.specs.declared.fault.StilKind.{StilKind}
use Rattle.stil_ast.specs.declared.fault.StilFault.{StilFault}
use Rattle.stil_ast.specs.Data.Refusal.{StilRefusal}
use Rattle.answers.specs.declared.short.Short.TheVariants.{NoMemory, Fault}
use Rattle.pat_read.specs.Refusal.{text_at}

-- what is told of a fault of this kind and line, where these tokens are read before it: the block is the top-level
-- statement that is open behind them, as far as it is read
pub record IsToldBehind (bytes : List ℕ) (read : List Token) (kind : StilKind) (line : ℕ) (fault : StilFault) : Type 0
  where
    pub found : Option ℕ × Option ℕ
    pub is_block : IsBlock read found
    pub is_kind : fault.kind ≡ kind
    pub is_keyword : fault.block ≡ text_at bytes read found.0
    pub is_name : fault.name ≡ text_at bytes read found.1
    pub is_line : fault.line ≡ line

-- a refusal tells of such a fault, or of want of memory
abbrev pub Tells : (StilFault → Type 0) → StilRefusal → Type 0
Tells Is NoMemory = Unit {0}
Tells Is (Fault fault) = Is fault
