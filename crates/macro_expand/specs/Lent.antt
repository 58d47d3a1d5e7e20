-- What references lead to, and which body a name leads to.
use Rattle.std.specs.Prelude.{◌≡◌, ℕ, List, map, position}
use Rattle.std.specs.Borrow.{Bor}
use Rattle.indexmap.specs.IndexMap.{IndexMap}
use Rattle.stil_ast.specs.Data.Texts.{same}
use Rattle.stil_ast.specs.declared.blocks.BodyDef.{BodyDef}
use Rattle.pattern_order.specs.Numbers.{place_in}

-- what is behind them
abbrev pub lent : {X : Type 0} → List (Bor X) → List X
lent references = map (λ r. r.now) references

-- each name has the place of the first body of that name
pub record ArePlaced {S : Type 0} (defs : List BodyDef) (places : IndexMap (Bor (List ℕ)) ℕ S) : Type 0 where
  pub first : (name : List ℕ) → place_in places name ≡ position (λ (d : BodyDef). same d.name name) defs
