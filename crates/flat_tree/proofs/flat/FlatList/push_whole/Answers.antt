use Rattle.std.proofs.Common.{[], ◌∷◌, refl, ap, ◌∙◌}
use Rattle.stil_ast.specs.Meaning.Flat.{Flat, done}
use Rattle.stil_ast.specs.Meaning.Flattening.{joined}
use Rattle.flat_tree.specs.Slots.{whole_front}
use Rattle.flat_tree.specs.declared.flat.Slot.TheVariants.{Next}
use Rattle.flat_tree.proofs.SlotLemmas.{fits_behind, slots_flat-append}
use Rattle.flat_tree.proofs.flat.FlatList.push_whole.Goals as goal

pub invariant_of-self-2 : goal.invariant_of-self-2
invariant_of-self-2 c =
    let own = c.self.inside in
    rw (c.in_ok-add_whole.ensures.slots, c.in_ok-add_whole.ensures.wholes)
    (fits_behind own.slots.items (Next ∷ []) own.wholes.items (c.args.whole ∷ []) c.self.invariant refl)

pub returns-clause-made : goal.returns-clause-made
returns-clause-made c =
    let own = c.self.inside in
    rw (c.in_ok-add_whole.ensures.slots, c.in_ok-add_whole.ensures.wholes)
    (slots_flat-append own.slots.items (Next ∷ []) own.wholes.items (c.args.whole ∷ []) c.self.invariant
    ∙ ap (λ (f : Flat). joined f (whole_front c.args.whole done)) c.self.view_is)
