use Rattle.std.proofs.Common.{ℕ, List, ◌++◌, ◌∙◌, ap, sym, subst}
use Rattle.std.specs.Prelude.{codes, decimal}
use Rattle.grade_parts.specs.Step.{IsBehind}
use Rattle.grade_parts.proofs.HeldLemmas.{counts-parts, behind_both, behind_none, behind_none_last}
use Rattle.grade_parts.proofs.reading.behind_counts.Goals as goal

pub returns-in_err-rest-2 : goal.returns-in_err-rest-2
returns-in_err-rest-2 c =
    let n = codes "faults " ++ decimal c.args.count in
    let m = codes " found " ++ decimal c.args.found in
    rw c.from_residual-in_err-rest-2.ensures
    (λ rest e. behind_none_last c.args.text.now n (m ++ codes "\n") c.in_ok-rest.rest.now c.in_ok-rest.ensures
    (behind_none c.in_ok-rest.rest.now m (codes "\n") c.in_err-rest-2.ensures) rest
    (e ∙ ap (λ (l : List ℕ). l ++ rest) (counts-parts c.args.count c.args.found)))

pub returns : goal.returns
returns c =
    let n = codes "faults " ++ decimal c.args.count in
    let m = codes " found " ++ decimal c.args.found in
    subst (λ (l : List ℕ). IsBehind c.args.text.now l c.behind.result) (sym (counts-parts c.args.count c.args.found))
    (behind_both c.args.text.now n (m ++ codes "\n") c.in_ok-rest.rest.now c.behind.result c.in_ok-rest.ensures
    (behind_both c.in_ok-rest.rest.now m (codes "\n") c.in_ok-rest-2.rest.now c.behind.result c.in_ok-rest-2.ensures c.behind.ensures))
