use Rattle.std.proofs.Common.{ℕ, ◌==◌, ap, sym, ◌∙◌}
use Rattle.flat_tree.specs.Counts.{item_count}
use Rattle.flat_tree.proofs.SlotLemmas.{slots_flat-count}
use Rattle.flat_tree.proofs.flat.FlatList.is_empty.Goals as goal

pub returns : goal.returns
returns c =
    let slots = c.self.inside.slots in
    c.is_empty.ensures
    ∙ ap (λ (n : ℕ). n == 0)
    (slots.ok.0
    ∙ (sym (slots_flat-count slots.items c.self.inside.wholes.items c.self.invariant) ∙ ap item_count c.self.view_is))
