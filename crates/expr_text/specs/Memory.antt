-- How the code keeps what is read. No public clause cites this file.
use Rattle.std.specs.Prelude.{◌≡◌, ◌⊎◌, ℕ, ◌<◌, ◌≤◌, Bool, ◌&&◌, List, length, drop, map, reverse, Option, Some, None, option_map, Result, Ok, Err}
use Rattle.expr_text.specs.Tree.{Tree, chain, extreme, also, tree_of, with_links, with_others}
use Rattle.expr_text.specs.Lexeme.{Lexeme, literal, word, operator, opening, comma, closing, is_in_range}
use Rattle.expr_text.specs.Front.{lexed}
use Rattle.expr_text.specs.Machine.{Unfinished, Sum, Purpose, grouping, no_operand, some_operands, Frame, State, before, behind, refused, step, outcome_from}
use Rattle.expr_text.specs.declared.fault.ExprFault.{ExprFault}
use Rattle.expr_text.specs.declared.fault.ExprFault.TheVariants.{NoMemory, BadExpr}
use Rattle.expr_text.specs.declared.expr.Expr.{Expr}
use Rattle.expr_text.specs.declared.expr.Operator.{Operator}
use Rattle.expr_text.specs.declared.token.Token.{Token}
use Rattle.expr_text.specs.declared.token.Token.TheVariants as token
use Rattle.expr_text.specs.declared.sum.Operands.{Operands}
use Rattle.expr_text.specs.declared.sum.OpenSum.{OpenSum}
use Rattle.expr_text.specs.declared.reader.Group.{Group}
use Rattle.expr_text.specs.declared.reader.Group.TheVariants as group
use Rattle.expr_text.specs.declared.reader.Paren.{Paren}
use Rattle.expr_text.specs.declared.reader.Reader.{Reader}
use Rattle.expr_text.specs.declared.reader.Reader.TheVariants as reader
use Rattle.expr_text.specs.declared.read.Progress.{Progress}

-- a token without where its text lies in memory
abbrev pub lexeme_of : Token → Lexeme
lexeme_of (token.Number n) = literal n
lexeme_of (token.Name bytes) = word bytes.now
lexeme_of (token.Operator op) = operator op
lexeme_of (token.Open bound) = opening bound
lexeme_of token.Comma = comma
lexeme_of token.Close = closing

-- a token at the front, and how many bytes it has
abbrev pub front_in : Option (Token × ℕ) → Option (Lexeme × ℕ)
front_in front = option_map (λ f. (lexeme_of f.0, f.1)) front

-- an operand of a chain as its tree
abbrev pub link_of : Operator × Expr → Operator × Tree
link_of link = (link.0, tree_of link.1)

-- operands in memory
abbrev pub unfinished_of : Operands → Unfinished
unfinished_of o = record { tree = with_links (chain (tree_of o.first)) (map link_of o.links.items); next = o.next }

-- a sum in memory
abbrev pub sum_of : OpenSum → Sum
sum_of s = record { terms = option_map unfinished_of s.terms; factors = option_map unfinished_of s.factors }

-- a purpose in memory
abbrev pub purpose_in : Group → Purpose
purpose_in group.Sum = grouping
purpose_in (group.NoOperand bound) = no_operand bound
purpose_in (group.Operands bound first others) =
    some_operands (with_others (extreme bound (tree_of first)) (map tree_of others.items))

-- an open parenthesis in memory
abbrev pub frame_of : Paren → Frame
frame_of p = record { around = sum_of p.around; purpose = purpose_in p.group }

-- the open parentheses in memory, which has the innermost last
abbrev pub frames_of : List Paren → List Frame
frames_of parens = reverse (map frame_of parens)

-- the state in memory
abbrev pub state_of : Reader → State
state_of (reader.Before parens sum) = before (frames_of parens.items) (sum_of sum)
state_of (reader.Behind parens sum factor) = behind (frames_of parens.items) (sum_of sum) (tree_of factor)

-- a step answers the wanted state, or BadExpr where it is a refusal, or that memory ran out
abbrev pub Steps : Result Reader ExprFault → State → Type 0
Steps (Ok r) wanted = state_of r ≡ wanted
Steps (Err e) wanted = (e ≡ NoMemory) ⊎ ((e ≡ BadExpr) × (wanted ≡ refused))

-- an answer is the wanted one, or BadExpr where there is none, or that memory ran out
abbrev pub Answers : {X Y : Type 0} → (X → Y) → Result X ExprFault → Option Y → Type 0
Answers view (Ok x) wanted = wanted ≡ Some (view x)
Answers view (Err e) wanted = (e ≡ NoMemory) ⊎ ((e ≡ BadExpr) × (wanted ≡ None))

-- a purpose at a comma, with this operand before it
abbrev pub IsSeparated : Result Group ExprFault → Purpose → Tree → Type 0
IsSeparated (Ok g) grouping t = ⊥
IsSeparated (Ok g) (no_operand bound) t = purpose_in g ≡ some_operands (extreme bound t)
IsSeparated (Ok g) (some_operands others) t = purpose_in g ≡ some_operands (also others t)
IsSeparated (Err e) grouping t = e ≡ BadExpr
IsSeparated (Err e) (no_operand bound) t = e ≡ NoMemory
IsSeparated (Err e) (some_operands others) t = e ≡ NoMemory

-- a purpose at a closing parenthesis, with this operand before it
abbrev pub IsClosed : Result Expr ExprFault → Purpose → Tree → Type 0
IsClosed (Ok x) grouping t = tree_of x ≡ t
IsClosed (Ok x) (no_operand bound) t = ⊥
IsClosed (Ok x) (some_operands others) t = tree_of x ≡ also others t
IsClosed (Err e) grouping t = e ≡ NoMemory
IsClosed (Err e) (no_operand bound) t = e ≡ BadExpr
IsClosed (Err e) (some_operands others) t = e ≡ NoMemory

-- what is read behind the lexeme at the front of a text, or its fault
abbrev pub ReadsFront : Result Progress ExprFault → State → Option (Lexeme × ℕ) → Type 0
ReadsFront (Ok p) state None = ⊥
ReadsFront (Ok p) state (Some front) =
    (state_of p.reader ≡ step state front.0) × (p.in_range ≡ is_in_range front.0) × (p.len ≡ front.1)
ReadsFront (Err e) state None = e ≡ BadExpr
ReadsFront (Err e) state (Some front) = (e ≡ NoMemory) ⊎ ((e ≡ BadExpr) × (step state front.0 ≡ refused))

-- what was read behind the front of a text, with the rest of the text, gives what the whole text gives
pub record GoesOn (p : Progress) (state : State) (text : List ℕ) : Type 0 where
  pub some : 0 < p.len
  pub within : p.len ≤ length text
  pub same : (in_range : Bool)
      → outcome_from state in_range (lexed 0 text) ≡ outcome_from (state_of p.reader) (in_range && p.in_range)
      (lexed 0 (drop p.len text))

-- a step of the reader goes on, or answers why not: want of memory, or that no text that goes on so is an expression
abbrev pub ReadsOn : Result Progress ExprFault → State → List ℕ → Type 0
ReadsOn (Ok p) state text = GoesOn p state text
ReadsOn (Err e) state text =
    (e ≡ NoMemory) ⊎ ((e ≡ BadExpr) × ((in_range : Bool) → outcome_from state in_range (lexed 0 text) ≡ None))
