-- The values that names stand for.
use Rattle.std.specs.Prelude.{ℕ, List, [], ◌∷◌, ◌++◌, Option, Some, None, Vec, nat_eq, if◌then◌else◌}
use Rattle.std.specs.Cmp.Lexicographic.{pointwise}
use Rattle.std.specs.declared.alloc.Global.{Global}
use Rattle.expr_text.specs.Ratio.{Ratio}

-- the value of the first entry with this name
abbrev pub value_of_name : List ℕ → List (List ℕ × Ratio) → Option Ratio
value_of_name name [] = None
value_of_name name (entry ∷ entries) =
    if pointwise nat_eq entry.0 name then Some entry.1 else value_of_name name entries

-- a name that has a value keeps it, and another one goes behind the others
abbrev pub unless_named : List ℕ → Ratio → List (List ℕ × Ratio) → Option Ratio → List (List ℕ × Ratio)
unless_named name value vars None = vars ++ (name, value) ∷ []
unless_named name value vars (Some known) = vars

-- the values with one more, where the name has none
abbrev pub with_value : List ℕ → Ratio → List (List ℕ × Ratio) → List (List ℕ × Ratio)
with_value name value vars = unless_named name value vars (value_of_name name vars)

-- an entry without where its name lies in memory
abbrev pub named_value : Vec ℕ Global × Ratio → List ℕ × Ratio
named_value entry = (entry.0.items, entry.1)
