-- Expressions as plain trees, without where they lie in memory.
use Rattle.std.specs.Prelude.{ℕ, List, [], ◌∷◌}
use Rattle.expr_text.specs.Ratio.{Ratio}
use Rattle.expr_text.specs.declared.unit.Unit.{Unit}
use Rattle.expr_text.specs.declared.expr.Operator.{Operator}
use Rattle.expr_text.specs.declared.expr.Bound.{Bound}
use Rattle.expr_text.specs.declared.expr.Expr.{Expr}
use Rattle.expr_text.specs.declared.expr.Expr.TheOpen.{Expr-F}
use Rattle.expr_text.specs.declared.expr.Expr.TheFolds.{fold-Expr}

-- an expression
pub data Tree : Type 0 where
  -- a number with its unit
  number : Ratio → Unit → Tree
  name : List ℕ → Tree
  -- the beginning of a chain, which is an operand
  chain : Tree → Tree
  -- a chain with one operand more
  linked : Tree → Operator → Tree → Tree
  -- the least or greatest of one operand so far
  extreme : Bound → Tree → Tree
  -- the same with one operand more
  also : Tree → Tree → Tree

-- a chain with more operands
abbrev pub with_links : Tree → List (Operator × Tree) → Tree
with_links t [] = t
with_links t (link ∷ links) = with_links (linked t link.0 link.1) links

-- a least or greatest with more operands
abbrev pub with_others : Tree → List Tree → Tree
with_others t [] = t
with_others t (other ∷ others) = with_others (also t other) others

-- one part of an expression, with the tree of each operand in its place
abbrev pub part_tree : Expr-F Tree → Tree
part_tree (Expr-F.Number value unit) = number value unit
part_tree (Expr-F.Name bytes) = name bytes
part_tree (Expr-F.Chain first rest) = with_links (chain first.value) rest.items
part_tree (Expr-F.Extreme bound first rest) = with_others (extreme bound first.value) rest.items

-- the tree of an expression
abbrev pub tree_of : Expr → Tree
tree_of = fold-Expr Tree part_tree
