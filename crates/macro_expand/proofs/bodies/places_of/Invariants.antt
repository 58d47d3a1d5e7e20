use Rattle.std.proofs.Common.{◌≡◌, ℕ, List, drop, position}
use Rattle.std.specs.List.{position_from}
use Rattle.std.specs.Option.{option_or}
use Rattle.stil_ast.specs.Data.Texts.{same}
use Rattle.stil_ast.specs.declared.blocks.BodyDef.{BodyDef}
use Rattle.pattern_order.specs.Numbers.{place_in}
use Rattle.macro_expand.specs.Lent.{lent}
use Rattle.macro_expand.proofs.bodies.places_of.Given as goal

-- the place of a name is that which is kept, or else its first one in what is left
abbrev pub invariant-loop-place : goal.invariant-loop-place
invariant-loop-place l = (name : List ℕ)
    → option_or (place_in l.places name) (position_from (λ (d : BodyDef). same d.name name) l.place (lent (drop l.place l.defs)))
    ≡ position (λ (d : BodyDef). same d.name name) (lent l.defs)
