use Rattle.std.proofs.Common.{◌≡◌, ℕ, List, drop, find, option_map}
use Rattle.std.specs.Option.{option_or}
use Rattle.std.specs.Str.{bytes_eq}
use Rattle.stil_ast.specs.declared.variable.Selection.{Selection}
use Rattle.time_expr.specs.Selected.{kept_choice}
use Rattle.time_expr.proofs.selected.choices_of.Given as goal

-- what is kept for a name, or else what the first selection of it among those that are left takes
abbrev pub invariant-loop-selection : goal.invariant-loop-selection
invariant-loop-selection l = (name : List ℕ)
    → option_or (kept_choice l.choices name)
    (option_map (λ (s : Selection). s.choice) (find (λ (s : Selection). bytes_eq s.name name) (drop l.selection-index l.selections)))
    ≡ option_map (λ (s : Selection). s.choice) (find (λ (s : Selection). bytes_eq s.name name) l.selections)
