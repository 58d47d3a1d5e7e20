use Rattle.std.proofs.Common.{◌≡◌, ℕ, List, subst, ◌+◌, ◌-◌, ◌<◌, length, ap, sym, ◌∙◌, arith}
use Rattle.std.proofs.lemmas.List.Elements.{length_all_zip}
use Rattle.flat_tree.specs.Counts.{body_count}
use Rattle.flat_tree.specs.Slots.{wholes_in}
use Rattle.flat_tree.specs.declared.flat.Slot.{Slot}
use Rattle.flat_tree.proofs.SlotLemmas.{bodies_alone}
use Rattle.flat_tree.specs.Leaning.{IsLeaned}
use Rattle.flat_tree.proofs.LeaningLemmas.{bodies_were, leans_on}
use Rattle.flat_tree.proofs.only_last.+lean.Goals as goal

pub lean_wholes-lean_whole-requires : goal.lean_wholes-lean_whole-requires
lean_wholes-lean_whole-requires t c =
    let far = c.loop-place.invariant in
    let from = c.loop-place.place in
    let whole = c.index_mut.result.now in
    let next : from - 1 + 1 ≡ from = omega (arith, c.loop-place-test.true) in
    let within : from - 1 < length c.args.wholes.now.items = omega (arith, next, far.within, far.size) in
    let few = bodies_were c.args.wholes.now.items c.loop-place.wholes.items (from - 1) from whole next within far.before
    c.index_mut.ensures.value in
    (omega (arith, few, c.decreases), tt)

pub lean_wholes-loop-place-preserved : goal.lean_wholes-loop-place-preserved
lean_wholes-loop-place-preserved t c =
    let far = c.loop-place.invariant in
    let from = c.loop-place.place in
    leans_on c.args.wholes.now.items c.loop-place.wholes.items (from - 1) from (length c.args.ahead.now.signals)
    c.loop-place.ahead c.lean_whole.new.ahead c.index_mut.result.now c.lean_whole.new.whole far
    (omega (arith, c.loop-place-test.true)) c.index_mut.ensures.value (omega (arith, c.lean_whole.ensures.count, far.count))
    (subst (λ (n : ℕ). IsLeaned n c.lean_whole.new.whole c.index_mut.result.now) far.count c.lean_whole.ensures.leaned)

pub lean_list-lean_wholes-requires : goal.lean_list-lean_wholes-requires
lean_list-lean_wholes-requires t c =
    let own = c.list.inside in
    let few = bodies_alone own.slots.items own.wholes.items c.list.invariant in
    (omega (arith, few, ap body_count c.list.view_is, c.decreases), tt)

pub lean_list-invariant_of-list : goal.lean_list-invariant_of-list
lean_list-invariant_of-list t c =
    ap (λ (ss : List Slot). wholes_in ss) c.drop_front.ensures
    ∙ (c.lean_slots-kept.ensures.made.fits
    ∙ (c.list.invariant
    ∙ sym (length_all_zip (IsLeaned (length c.args.ahead.now.signals)) _ _ c.lean_wholes.ensures.leaned)))
