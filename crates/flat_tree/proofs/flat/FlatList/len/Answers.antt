use Rattle.std.proofs.Common.{ap, sym, ◌∙◌}
use Rattle.flat_tree.specs.Counts.{item_count}
use Rattle.flat_tree.proofs.SlotLemmas.{slots_flat-count}
use Rattle.flat_tree.proofs.flat.FlatList.len.Goals as goal

pub returns : goal.returns
returns c =
    let slots = c.self.inside.slots in
    c.len.ensures
    ∙ (slots.ok.0
    ∙ (sym (slots_flat-count slots.items c.self.inside.wholes.items c.self.invariant) ∙ ap item_count c.self.view_is))
