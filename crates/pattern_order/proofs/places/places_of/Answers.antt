use Rattle.std.proofs.Common.{◌∙◌, sym, ap}
use Rattle.std.specs.List.{position_from}
use Rattle.std.specs.Option.{option_or}
use Rattle.std.proofs.lemmas.Iterator.Adapters.{position_from-zero}
use Rattle.stil_ast.specs.Data.Texts.{same}
use Rattle.pattern_order.proofs.PlaceLemmas.{none-kept}
use Rattle.pattern_order.proofs.places.places_of.Goals as goal

pub loop-place-init : goal.loop-place-init
loop-place-init g c = λ name.
    ap (λ o. option_or o (position_from (λ i. same (g.T.HasName.called i) name) 0 c.args.items.now))
    (none-kept c.new-places.result name c.new-places.ensures.empty)
    ∙ sym (position_from-zero (λ i. same (g.T.HasName.called i) name) c.args.items.now)
