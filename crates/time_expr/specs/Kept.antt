-- Expressions that are kept for texts. No public clause cites this file.
use Rattle.std.specs.Prelude.{◌≡◌, ℕ, true, List, Option, Some}
use Rattle.std.specs.Borrow.{Bor}
use Rattle.std.specs.Str.{bytes_eq}
use Rattle.indexmap.specs.IndexMap.{IndexMap, get_by}
use Rattle.expr_text.specs.Tree.{tree_of}
use Rattle.expr_text.specs.Spelling.{Spells}
use Rattle.expr_text.specs.declared.expr.Expr.{Expr}

-- the expression that is kept for a text
abbrev pub expr_for : {S : Type 0} → IndexMap (Bor (List ℕ)) Expr S → List ℕ → Option Expr
expr_for exprs text = get_by (λ k. bytes_eq text k.now) exprs

-- what is kept for a text is the expression that it spells
abbrev pub AreSpelled : {S : Type 0} → IndexMap (Bor (List ℕ)) Expr S → Type 0
AreSpelled exprs =
    (text : List ℕ) (expr : Expr) → expr_for exprs text ≡ Some expr → Spells text (tree_of expr) true
