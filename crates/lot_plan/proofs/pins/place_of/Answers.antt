use Rattle.std.proofs.Common.{◌≡◌, ◌∙◌, sym, rules, tests}
use Rattle.std.specs.List.{position}
use Rattle.std.proofs.lemmas.Iterator.{YieldsList-from_slice}
use Rattle.std.proofs.lemmas.Iterator.Search.{position_from_yields_List}
use Rattle.lot_plan.specs.Needs.{has_name}
use Rattle.lot_plan.proofs.pins.place_of.Goals as goal

pub returns-in_err-place : goal.returns-in_err-place
returns-in_err-place c =
    let found : c.position.result ≡ position (has_name c.args.name.now) c.args.signals.now = position_from_yields_List
    (has_name c.args.name.now) _ _
    c.position.result c.position.ensures.ran (YieldsList-from_slice _ c.iter.ensures.rest) (λ x b q k. search (rules, tests)) in
    c.from_residual.ensures ∙ sym c.in_err-place.was ∙ found

pub returns : goal.returns
returns c =
    let found : c.position.result ≡ position (has_name c.args.name.now) c.args.signals.now = position_from_yields_List
    (has_name c.args.name.now) _ _
    c.position.result c.position.ensures.ran (YieldsList-from_slice _ c.iter.ensures.rest) (λ x b q k. search (rules, tests)) in
    sym c.in_ok-place.was ∙ found
