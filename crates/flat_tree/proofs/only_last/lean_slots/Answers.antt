use Rattle.std.proofs.Common.{◌-◌, ap, sym, ◌∙◌, length, drop, arith}
use Rattle.flat_tree.specs.Leaning.{slots_if}
use Rattle.flat_tree.specs.declared.flat.Slot.{Slot}
use Rattle.flat_tree.proofs.LeaningLemmas.{keeps_on}
use Rattle.flat_tree.proofs.only_last.lean_slots.Goals as goal

pub loop-place-preserved : goal.loop-place-preserved
loop-place-preserved c =
    let from = c.loop-place.place in
    let slot = c.index.result.now in
    let now = c.loop-place.slots.items in
    let kept = c.loop-place.kept in
    let stays = c.slot_stays-stays.result in
    let put = c.kept_from-kept.ensures in
    keeps_on c.args.slots.now.items now c.kept_from-kept.new.slots.items (from - 1) from kept c.kept_from-kept.result
    (length c.args.ahead.now.signals) c.loop-place.ahead c.slot_stays-stays.new.ahead slot stays c.loop-place.invariant
    (omega (arith, c.loop-place-test.true)) c.index.ensures c.slot_stays-stays.ensures put.before put.size put.behind
    (omega (arith, put.within, c.kept_from-kept.new.slots.ok.0))
    (put.made slot ∙ ap (λ (s : Slot). slots_if stays s (drop kept now)) (sym c.index.ensures))
