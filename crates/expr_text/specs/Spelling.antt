-- Which text spells which expression, and the fault of a text.
use Rattle.std.specs.Prelude.{◌≡◌, ℕ, Bool, false, List}
use Rattle.std.specs.List.{list_all}
use Rattle.text_bytes.specs.Lexemes.{Reads}
use Rattle.expr_text.specs.Tree.{Tree}
use Rattle.expr_text.specs.Lexeme.{Lexeme, is_in_range, IsLexeme}
use Rattle.expr_text.specs.Grammar.{of_sum, joined, Parses}
use Rattle.expr_text.specs.declared.fault.ExprFault.{ExprFault}
use Rattle.expr_text.specs.declared.fault.ExprFault.TheVariants.{NoMemory, BadExpr, OutOfRange, UnknownName, ZeroDivisor}

-- the whole text spells the tree; whether each of its literals is in range
pub record Spells (text : List ℕ) (tree : Tree) (in_range : Bool) : Type 0 where
  pub lexemes : List Lexeme
  pub reads : Reads IsLexeme lexemes text
  pub parses : Parses (joined of_sum) 0 lexemes tree
  pub judged : list_all is_in_range lexemes ≡ in_range

-- the text spells no expression, or one with a literal out of range
abbrev pub IsFault : List ℕ → ExprFault → Type 0
IsFault text NoMemory = ⊥
IsFault text BadExpr = (tree : Tree) (in_range : Bool) → Spells text tree in_range → ⊥
IsFault text OutOfRange = (tree : Tree) × Spells text tree false
IsFault text UnknownName = ⊥
IsFault text ZeroDivisor = ⊥
