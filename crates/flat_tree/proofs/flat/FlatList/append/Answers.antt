use Rattle.std.proofs.Common.{ap, ◌∙◌}
use Rattle.stil_ast.specs.Meaning.Flat.{Flat}
use Rattle.stil_ast.specs.Meaning.Flattening.{joined}
use Rattle.flat_tree.specs.Slots.{slots_flat}
use Rattle.flat_tree.proofs.SlotLemmas.{fits_behind, slots_flat-append}
use Rattle.flat_tree.proofs.flat.FlatList.append.Goals as goal

pub invariant_of-self-2 : goal.invariant_of-self-2
invariant_of-self-2 c =
    let own = c.self.inside in
    let more = c.more.inside in
    rw (c.in_ok-add_all.ensures.slots, c.in_ok-add_all.ensures.wholes, c.as_slice.ensures.value)
    (fits_behind own.slots.items more.slots.items own.wholes.items more.wholes.items c.self.invariant c.more.invariant)

pub returns-clause-made : goal.returns-clause-made
returns-clause-made c =
    let own = c.self.inside in
    let more = c.more.inside in
    rw (c.in_ok-add_all.ensures.slots, c.in_ok-add_all.ensures.wholes, c.as_slice.ensures.value)
    (slots_flat-append own.slots.items more.slots.items own.wholes.items more.wholes.items c.self.invariant
    ∙ (ap (λ (f : Flat). joined f (slots_flat more.slots.items more.wholes.items)) c.self.view_is
    ∙ ap (joined c.args.self.now) c.more.view_is))
