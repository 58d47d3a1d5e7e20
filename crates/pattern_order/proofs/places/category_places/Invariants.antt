use Rattle.std.proofs.Common.{◌≡◌, ◌||◌, ℕ, List, drop, is_some}
use Rattle.std.specs.List.{list_any}
use Rattle.pattern_order.specs.Numbers.{place_in, has_category}
use Rattle.pattern_order.proofs.places.category_places.Given as goal

-- a name has a place, or else one of the Specs that are left has such a category
abbrev pub invariant-loop-spec : goal.invariant-loop-spec
invariant-loop-spec l = (name : List ℕ)
    → (is_some (place_in l.places name) || list_any (has_category name) (drop l.spec-index l.specs))
    ≡ list_any (has_category name) l.specs
