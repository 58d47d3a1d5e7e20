-- One operand more in a tree.
use Rattle.std.proofs.Common.{◌≡◌, List, [], ◌∷◌, ◌++◌, refl, map, ap, ◌∙◌}
use Rattle.std.proofs.lemmas.List.{map_push}
use Rattle.expr_text.specs.declared.expr.Operator.{Operator}
use Rattle.expr_text.specs.declared.expr.Expr.{Expr}
use Rattle.expr_text.specs.Tree.{Tree, linked, also, with_links, with_others, tree_of}
use Rattle.expr_text.specs.Memory.{link_of}

pub with_links-push : (t : Tree) (links : List (Operator × Tree)) (op : Operator) (x : Tree)
    → with_links t (links ++ (op, x) ∷ []) ≡ linked (with_links t links) op x
with_links-push t [] op x = refl
with_links-push t (l ∷ links) op x = with_links-push (linked t l.0 l.1) links op x

pub with_others-push : (t : Tree) (others : List Tree) (x : Tree)
    → with_others t (others ++ x ∷ []) ≡ also (with_others t others) x
with_others-push t [] x = refl
with_others-push t (o ∷ others) x = with_others-push (also t o) others x

-- the same in memory
pub links-push : (t : Tree) (links more : List (Operator × Expr)) (op : Operator) (x : Expr) → more ≡ links ++ (op, x) ∷ []
    → with_links t (map link_of more) ≡ linked (with_links t (map link_of links)) op (tree_of x)
links-push t links more op x e =
    ap (λ ls. with_links t (map link_of ls)) e ∙ ap (with_links t) (map_push link_of links (op, x))
    ∙ with_links-push t (map link_of links) op (tree_of x)

pub others-push : (t : Tree) (others more : List Expr) (x : Expr) → more ≡ others ++ x ∷ []
    → with_others t (map tree_of more) ≡ also (with_others t (map tree_of others)) (tree_of x)
others-push t others more x e =
    ap (λ os. with_others t (map tree_of os)) e ∙ ap (with_others t) (map_push tree_of others x)
    ∙ with_others-push t (map tree_of others) (tree_of x)
