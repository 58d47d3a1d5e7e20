use Rattle.std.proofs.Common.{◌≡◌, ℕ, List, drop, map, ◌||◌}
use Rattle.stil_ast.specs.Data.Texts.{has_name}
use Rattle.text_bytes.specs.Texts.{is_among}
use Rattle.indexmap.specs.IndexSet.{keys}
use Rattle.time_expr.specs.Selected.{named}
use Rattle.time_expr.proofs.selected.index_of.Given as goal

-- a name is kept, or else among those that are left
abbrev pub invariant-loop-named : goal.invariant-loop-named
invariant-loop-named l = (other : List ℕ)
    → (is_among (keys l.index) other || has_name (map named (drop l.named-index l.names)) other) ≡ has_name (map named l.names) other
