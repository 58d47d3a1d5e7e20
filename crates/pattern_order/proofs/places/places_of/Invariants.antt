use Rattle.std.proofs.Common.{◌≡◌, ℕ, List, drop, position}
use Rattle.std.specs.List.{position_from}
use Rattle.std.specs.Option.{option_or}
use Rattle.stil_ast.specs.Data.Texts.{same}
use Rattle.pattern_order.specs.Numbers.{place_in}
use Rattle.pattern_order.proofs.places.places_of.Given as goal

-- the place of a name is that which is kept, or else its first one in what is left
abbrev pub invariant-loop-place : goal.invariant-loop-place
invariant-loop-place g l = (name : List ℕ)
    → option_or (place_in l.places name) (position_from (λ i. same (g.T.HasName.called i) name) l.place (drop l.place l.items))
    ≡ position (λ i. same (g.T.HasName.called i) name) l.items
