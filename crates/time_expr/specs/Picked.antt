-- The variables of an executive, as the code keeps them. No public clause cites this file.
use Rattle.std.specs.Prelude.{ℕ, List, Option, map, flat_map, codes}
use Rattle.std.specs.Option.{option_copied}
use Rattle.stil_ast.specs.Data.Places.{Place}
use Rattle.stil_ast.specs.Meaning.Variables.{Variable, picked_category}
use Rattle.stil_ast.specs.declared.variable.Selector.{Selector}
use Rattle.stil_ast.specs.declared.variable.SpecBlock.{SpecBlock}
use Rattle.time_expr.specs.declared.picked.Picked.{Picked}
use Rattle.time_expr.specs.declared.picked.Spot.{Spot}

-- a line of a Spec block of this name
abbrev pub in_spec : List ℕ → ℕ → Place
in_spec spec line = record { block = codes "Spec"; name = spec; line = line }

-- a spot without where its name lies in memory
abbrev pub place_of : Spot → Place
place_of spot = in_spec spot.spec.now spot.line

-- a variable without where it lies in memory
abbrev pub variable_of : Picked → Variable
variable_of p = record { name = p.name.now; text = option_copied p.text; place = in_spec p.spec.now p.line }

-- several variables
abbrev pub variables_of : List Picked → List Variable
variables_of picked = map variable_of picked

-- the picked variables of a Spec block
abbrev pub picked_spec : Option Selector → List (List ℕ) → SpecBlock → List Variable
picked_spec selector names s = flat_map (picked_category selector names s.name) s.categories
