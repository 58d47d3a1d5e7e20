use Rattle.std.proofs.Common.{◌∙◌, sym, ap}
use Rattle.std.specs.List.{position_from}
use Rattle.std.specs.Option.{option_or}
use Rattle.std.proofs.lemmas.Iterator.Adapters.{position_from-zero}
use Rattle.stil_ast.specs.Data.Texts.{same}
use Rattle.stil_ast.specs.declared.blocks.BodyDef.{BodyDef}
use Rattle.pattern_order.proofs.PlaceLemmas.{none-kept}
use Rattle.macro_expand.specs.Lent.{lent}
use Rattle.macro_expand.proofs.bodies.places_of.Goals as goal

pub loop-place-init : goal.loop-place-init
loop-place-init c = λ name.
    ap (λ o. option_or o (position_from (λ (d : BodyDef). same d.name name) 0 (lent c.args.defs.now)))
    (none-kept c.new-places.result name c.new-places.ensures.empty)
    ∙ sym (position_from-zero (λ (d : BodyDef). same d.name name) (lent c.args.defs.now))
