use Rattle.std.proofs.Common.{[], ◌∷◌, ap, ◌∙◌, arith}
use Rattle.stil_ast.specs.Meaning.Flat.{Flat}
use Rattle.stil_ast.specs.Meaning.Flattening.{joined}
use Rattle.flat_tree.specs.Slots.{slots_flat}
use Rattle.flat_tree.proofs.SlotLemmas.{wholes_in-append, slots_flat-push}
use Rattle.flat_tree.proofs.flat.FlatList.push_slot.Goals as goal

pub invariant_of-self-2 : goal.invariant_of-self-2
invariant_of-self-2 c =
    let own = c.self.inside in
    rw c.in_ok-push.ensures.items
    (omega (arith, wholes_in-append own.slots.items (c.args.slot ∷ []), c.self.invariant, c.requires))

pub returns-clause-made : goal.returns-clause-made
returns-clause-made c =
    let own = c.self.inside in
    rw c.in_ok-push.ensures.items
    (slots_flat-push own.slots.items c.args.slot own.wholes.items c.self.invariant
    ∙ ap (λ (f : Flat). joined f (slots_flat (c.args.slot ∷ []) [])) c.self.view_is)
