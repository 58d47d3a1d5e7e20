use Rattle.std.proofs.Common.{◌+◌, List, ap, drop, arith}
use Rattle.stil_ast.specs.Meaning.Flat.{measure}
use Rattle.flat_tree.specs.Counts.{body_count}
use Rattle.flat_tree.specs.Slots.{wholes_flat}
use Rattle.flat_tree.specs.declared.flat.Whole.{Whole}
use Rattle.flat_tree.proofs.SlotLemmas.{bodies_alone, measure_alone, whole_bodies-le, whole_measure, wholes_from}
use Rattle.flat_tree.proofs.+measure.Goals as goal

pub measure::wholes_measure-whole_measure-requires :
    goal.measure::wholes_measure-whole_measure-requires
measure::wholes_measure-whole_measure-requires t c =
    let whole = c.whole-item.result in
    let small = whole_bodies-le c.args.wholes.now c.loop-whole.whole-index whole whole c.whole-item.is c.loop-whole-test.true in
    (omega (arith, small, c.decreases), tt)

pub measure::wholes_measure-loop-whole-preserved : goal.measure::wholes_measure-loop-whole-preserved
measure::wholes_measure-loop-whole-preserved t c =
    let wholes = c.args.wholes.now in
    let place = c.loop-whole.whole-index in
    let whole = c.whole-item.result in
    let here = ap measure (wholes_from wholes place whole whole c.whole-item.is c.loop-whole-test.true) in
    let more = whole_measure whole (wholes_flat (drop (place + 1) wholes)) in
    let inv = c.loop-whole.invariant in (
      omega (arith, here, more, inv.0, inv.1, c.whole_measure.ensures, c.min-total.ensures),
      omega (arith, c.min-total.ensures),
    )

pub flat::FlatList::measure-wholes_measure-requires :
    goal.flat::FlatList::measure-wholes_measure-requires
flat::FlatList::measure-wholes_measure-requires t c =
    let own = c.self.inside in
    let lent = ap (λ (ws : List Whole). body_count (wholes_flat ws)) c.as_slice.ensures.value in
    let few = bodies_alone own.slots.items own.wholes.items c.self.invariant in
    (omega (arith, lent, few, ap body_count c.self.view_is, c.decreases), tt)

pub flat::FlatList::measure-returns : goal.flat::FlatList::measure-returns
flat::FlatList::measure-returns t c =
    let own = c.self.inside in
    let lent = ap (λ (ws : List Whole). measure (wholes_flat ws)) c.as_slice.ensures.value in
    let same = measure_alone own.slots.items own.wholes.items c.self.invariant in
    omega (arith, lent, same, ap measure c.self.view_is, c.wholes_measure.ensures)
