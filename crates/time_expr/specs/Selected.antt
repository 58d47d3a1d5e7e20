-- Indices of the names of categories, and of what a Selector takes. No public clause cites this file.
use Rattle.std.specs.Prelude.{ℕ, List, Option, Some, None}
use Rattle.std.specs.Borrow.{Bor}
use Rattle.std.specs.Str.{bytes_eq}
use Rattle.indexmap.specs.IndexMap.{IndexMap, get_by}
use Rattle.stil_ast.specs.declared.name.Named.{Named}
use Rattle.stil_ast.specs.declared.variable.Choice.{Choice}
use Rattle.stil_ast.specs.declared.variable.Choice.TheVariants.{Typ}

-- the name of such a statement
abbrev pub named : Named → List ℕ
named n = n.name

-- what is kept for a name
abbrev pub kept_choice : {S : Type 0} → IndexMap (Bor (List ℕ)) Choice S → List ℕ → Option Choice
kept_choice choices name = get_by (λ k. bytes_eq name k.now) choices

-- Typ is taken where nothing is kept
abbrev pub choice_of : Option Choice → Choice
choice_of None = Typ
choice_of (Some choice) = choice
