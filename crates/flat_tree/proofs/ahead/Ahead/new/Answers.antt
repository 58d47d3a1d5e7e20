use Rattle.std.proofs.Common.{ℕ, ◌==◌, Bool, false, List, ap, ◌∙◌, map}
use Rattle.flat_tree.specs.Lean.{Ahead}
use Rattle.flat_tree.proofs.MarkLemmas.{none_at_one}
use Rattle.flat_tree.proofs.ahead.Ahead.new.Goals as goal

pub returns : goal.returns
returns c =
    let without_table : List Bool → Ahead = λ bs. record { table = false; signals = bs } in
    ap without_table
    (ap (λ (ms : List ℕ). map (λ (m : ℕ). m == 1) ms) (c.in_ok-marks.ensures.items_if_clones_equal (λ y e. e))
    ∙ none_at_one c.args.signals)
