use Rattle.std.proofs.Common.{◌∙◌, ap, ℕ, ◌+◌, min}
use Rattle.text_bytes.specs.Limits.{most_cycles}
use Rattle.stil_ast.specs.Meaning.State.{State, start_of}
use Rattle.cycle_comp.proofs.CountLemmas.{run-count}
use Rattle.cycle_comp.proofs.sizes.tree_cycles.Goals as goal

pub returns : goal.returns
returns c =
    let s : State = start_of 0 in
    c.cycles.ensures s s ∙ ap (λ (n : ℕ). min n (most_cycles + 1)) (run-count c.args.tree.now s s)
