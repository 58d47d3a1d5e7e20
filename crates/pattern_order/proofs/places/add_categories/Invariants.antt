use Rattle.std.proofs.Common.{◌≡◌, ◌||◌, ℕ, List, drop, is_some}
use Rattle.std.specs.List.{list_any}
use Rattle.pattern_order.specs.Numbers.{place_in, is_called}
use Rattle.pattern_order.proofs.places.add_categories.Given as goal

-- a name has a place, or else one of the categories that are left has it
abbrev pub invariant-loop-place : goal.invariant-loop-place
invariant-loop-place l = (name : List ℕ)
    → (is_some (place_in l.places name) || list_any (is_called name) (drop l.place l.categories))
    ≡ (is_some (place_in l.fn.places name) || list_any (is_called name) l.categories)
