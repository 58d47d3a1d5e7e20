use Rattle.std.proofs.Common.{List, ap, sym, ◌∙◌, arith}
use Rattle.flat_tree.specs.Counts.{body_count}
use Rattle.flat_tree.specs.Slots.{wholes_flat}
use Rattle.flat_tree.specs.Kept.{has_vector}
use Rattle.flat_tree.specs.declared.flat.Whole.{Whole}
use Rattle.flat_tree.proofs.SlotLemmas.{bodies_alone, vector_alone, whole_bodies-le}
use Rattle.flat_tree.proofs.+vector.Goals as goal

pub calling::any_vector-whole_has_vector-requires : goal.calling::any_vector-whole_has_vector-requires
calling::any_vector-whole_has_vector-requires t c =
    let whole = c.whole-item.result in
    let small = whole_bodies-le c.args.wholes.now c.loop-whole.whole-index whole whole c.whole-item.is c.loop-whole-test.true in
    (omega (arith, small, c.decreases), tt)

pub flat::FlatList::has_vector-any_vector-requires :
    goal.flat::FlatList::has_vector-any_vector-requires
flat::FlatList::has_vector-any_vector-requires t c =
    let own = c.self.inside in
    let lent = ap (λ (ws : List Whole). body_count (wholes_flat ws)) c.as_slice.ensures.value in
    let few = bodies_alone own.slots.items own.wholes.items c.self.invariant in
    (omega (arith, lent, few, ap body_count c.self.view_is, c.decreases), tt)

pub flat::FlatList::has_vector-returns : goal.flat::FlatList::has_vector-returns
flat::FlatList::has_vector-returns t c =
    let own = c.self.inside in
    c.any_vector.ensures
    ∙ (ap (λ (ws : List Whole). has_vector (wholes_flat ws)) c.as_slice.ensures.value
    ∙ (sym (vector_alone own.slots.items own.wholes.items c.self.invariant) ∙ ap has_vector c.self.view_is))
