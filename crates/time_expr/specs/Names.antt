-- The names in an expression, from the left, and the first that has no value. No public clause cites this file.
use Rattle.std.specs.Prelude.{ℕ, List, [], ◌∷◌, ◌++◌, Option, map, find, flat_map, is_none}
use Rattle.expr_text.specs.Ratio.{Ratio}
use Rattle.expr_text.specs.Vars.{value_of_name}
use Rattle.expr_text.specs.declared.expr.Operator.{Operator}
use Rattle.expr_text.specs.declared.expr.Expr.{Expr}
use Rattle.expr_text.specs.declared.expr.Expr.TheOpen.{Expr-F}
use Rattle.expr_text.specs.declared.expr.Expr.TheFolds.{fold-Expr}

-- those of several operands
abbrev pub joined : List (List (List ℕ)) → List (List ℕ)
joined names = flat_map (λ n. n) names

-- those of the operands behind operators
abbrev pub joined_links : List (Operator × List (List ℕ)) → List (List ℕ)
joined_links links = flat_map (λ link. link.1) links

-- one part of an expression, with the names of each operand in its place
abbrev pub part_names : Expr-F (List (List ℕ)) → List (List ℕ)
part_names (Expr-F.Number value unit) = []
part_names (Expr-F.Name bytes) = bytes ∷ []
part_names (Expr-F.Chain first rest) = first.value ++ joined_links rest.items
part_names (Expr-F.Extreme bound first rest) = first.value ++ joined rest.items

-- the names in an expression
abbrev pub names_of : Expr → List (List ℕ)
names_of = fold-Expr (List (List ℕ)) part_names

-- the names in the operands of a chain
abbrev pub link_names : List (Operator × Expr) → List (List ℕ)
link_names links = joined_links (map (λ link. (link.0, names_of link.1)) links)

-- the names in several operands
abbrev pub operand_names : List Expr → List (List ℕ)
operand_names operands = joined (map names_of operands)

-- the first of these names that has no value
abbrev pub first_missing : List (List ℕ × Ratio) → List (List ℕ) → Option (List ℕ)
first_missing vars names = find (λ name. is_none (value_of_name name vars)) names
