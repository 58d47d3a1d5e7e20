use Rattle.std.proofs.Common.{ℕ, ◌==◌, Bool, false, List, ap, sym, ◌∙◌, replicate}
use Rattle.std.proofs.lemmas.List.{length-map}
use Rattle.std.specs.Prelude.{map}
use Rattle.flat_tree.specs.Lean.{Ahead}
use Rattle.flat_tree.specs.Leaning.{none_ahead}
use Rattle.flat_tree.proofs.MarkLemmas.{none_newer, none_at_one}
use Rattle.flat_tree.proofs.ahead.Ahead.forget.Goals as goal

-- no table, and these signals
abbrev without_table : List Bool → Ahead
without_table bs = record { table = false; signals = bs }

pub returns-then-self-lt4294967295 : goal.returns-then-self-lt4294967295
returns-then-self-lt4294967295 c =
    let marks = c.self.inside.marks.items in
    ap without_table
    (none_newer marks c.self.inside.round c.self.invariant
    ∙ ap (λ (n : ℕ). replicate n false) (sym (length-map marks (λ (m : ℕ). m == c.self.inside.round))))
    ∙ ap none_ahead c.self.view_is

pub returns-else-self-lt4294967295 : goal.returns-else-self-lt4294967295
returns-else-self-lt4294967295 c =
    let marks = c.self.inside.marks.items in
    ap without_table
    (ap (λ (ms : List ℕ). map (λ (m : ℕ). m == 1) ms) (c.fill.ensures.items (λ y e. e))
    ∙ (none_at_one _
    ∙ ap (λ (n : ℕ). replicate n false)
    (c.self.inside.marks.ok.0 ∙ sym (length-map marks (λ (m : ℕ). m == c.self.inside.round)))))
    ∙ ap none_ahead c.self.view_is
