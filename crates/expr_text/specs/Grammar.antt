-- The grammar of expressions over their lexemes.
use Rattle.std.specs.Prelude.{◌≡◌, ℕ, suc, ◌<◌, Bool, true, false, List, [], ◌∷◌, ◌++◌, Some, None}
use Rattle.expr_text.specs.Tree.{Tree, number, name, chain, linked, extreme, also}
use Rattle.expr_text.specs.Lexeme.{Lexeme, literal, word, operator, opening, comma, closing}
use Rattle.expr_text.specs.declared.expr.Operator.{Operator}
use Rattle.expr_text.specs.declared.expr.Operator.TheVariants.{Plus, Minus, Times, Over}
use Rattle.expr_text.specs.declared.expr.Bound.{Bound}
use Rattle.expr_text.specs.declared.token.Number.{Number}
use Rattle.expr_text.specs.declared.reader.TheConstants.{MOST_PARENS}

-- how many parentheses may stand one inside another
abbrev pub most_parens : ℕ
most_parens = MOST_PARENS

-- what joins operands: `*` and `/` in a term, `+` and `-` in a sum
pub data Joint : Type 0 where
  of_term : Joint
  of_sum : Joint

-- whether an operator joins factors in a term, or terms in a sum
abbrev pub joins : Joint → Operator → Bool
joins of_term Plus = false
joins of_term Minus = false
joins of_term Times = true
joins of_term Over = true
joins of_sum Plus = true
joins of_sum Minus = true
joins of_sum Times = false
joins of_sum Over = false

-- a part of an expression: a factor; two or more operands that are joined; one or more; two or more operands of `min`
-- or `max`
pub data Part : Type 0 where
  factor : Part
  several : Joint → Part
  joined : Joint → Part
  operands : Bound → Part

-- what is joined: factors in a term, terms in a sum
abbrev pub operand_of : Joint → Part
operand_of of_term = factor
operand_of of_sum = joined of_term

-- the lexemes are such a part with this tree, inside `depth` parentheses
pub data Parses : Part → ℕ → List Lexeme → Tree → Type 0 where
  is_number : (depth : ℕ) (n : Number) → Parses factor depth (literal n ∷ []) (number n.value n.unit)
  is_name : (depth : ℕ) (bytes : List ℕ) → Parses factor depth (word bytes ∷ []) (name bytes)
  in_parens : (depth : ℕ) (ls : List Lexeme) (t : Tree) → depth < most_parens → Parses (joined of_sum) (suc depth) ls t
      → Parses factor depth (opening None ∷ (ls ++ closing ∷ [])) t
  is_extreme : (depth : ℕ) (bound : Bound) (ls : List Lexeme) (t : Tree) → depth < most_parens
      → Parses (operands bound) (suc depth) ls t
      → Parses factor depth (opening (Some bound) ∷ (ls ++ closing ∷ [])) t
  -- two operands, or one more
  two_joined : (joint : Joint) (depth : ℕ) (ls : List Lexeme) (s : Tree) (op : Operator) (ms : List Lexeme) (t : Tree)
      → Parses (operand_of joint) depth ls s → joins joint op ≡ true → Parses (operand_of joint) depth ms t
      → Parses (several joint) depth (ls ++ operator op ∷ ms) (linked (chain s) op t)
  more_joined : (joint : Joint) (depth : ℕ) (ls : List Lexeme) (s : Tree) (op : Operator) (ms : List Lexeme) (t : Tree)
      → Parses (several joint) depth ls s → joins joint op ≡ true → Parses (operand_of joint) depth ms t
      → Parses (several joint) depth (ls ++ operator op ∷ ms) (linked s op t)
  is_one : (joint : Joint) (depth : ℕ) (ls : List Lexeme) (t : Tree) → Parses (operand_of joint) depth ls t
      → Parses (joined joint) depth ls t
  are_several : (joint : Joint) (depth : ℕ) (ls : List Lexeme) (t : Tree) → Parses (several joint) depth ls t
      → Parses (joined joint) depth ls t
  -- two operands of `min` or `max`, or one more
  two_operands : (bound : Bound) (depth : ℕ) (ls : List Lexeme) (s : Tree) (ms : List Lexeme) (t : Tree)
      → Parses (joined of_sum) depth ls s
      → Parses (joined of_sum) depth ms t → Parses (operands bound) depth (ls ++ comma ∷ ms) (also (extreme bound s) t)
  more_operands : (bound : Bound) (depth : ℕ) (ls : List Lexeme) (s : Tree) (ms : List Lexeme) (t : Tree)
      → Parses (operands bound) depth ls s
      → Parses (joined of_sum) depth ms t → Parses (operands bound) depth (ls ++ comma ∷ ms) (also s t)
