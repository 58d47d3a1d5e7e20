use Rattle.std.proofs.Common.{arith, sym, ◌∙◌, ◌<◌, ◌++◌, ◌∷◌, [], ap, length}
use Rattle.lot_plan.proofs.PinLemmas.{take-next}
use Rattle.lot_plan.proofs.pins.signals_of.Goals as goal

pub loop-number-preserved : goal.loop-number-preserved
loop-number-preserved c =
    let within : c.loop-number.number < length c.args.code.now.signals = omega (arith, c.signals-number-end.ensures.count) in
    c.in_ok-push.ensures.items ∙ ap (λ s. s ++ c.in_ok-signal_of.field-0 ∷ []) c.loop-number.invariant
    ∙ sym (take-next c.args.code.now.signals c.loop-number.number c.in_ok-signal_of.field-0 within c.in_ok-signal_of.ensures)
