use Rattle.std.proofs.Common.{map, sym, ap, ◌∙◌}
use Rattle.stil_ast.specs.Meaning.ExecutiveData.{Tree, Executive}
use Rattle.burst_exec.proofs.TreeLemmas.{flats-in}
use Rattle.burst_exec.proofs.exec.Exec.flats.Goals as goal

pub returns : goal.returns
returns c =
    ap (λ (x : Executive). map (λ (t : Tree). t.flat) x.trees) (sym c.self.view_is)
    ∙ flats-in c.self.inside.titles.items c.self.inside.flats.items c.self.invariant
    ∙ sym c.as_slice.ensures.value
