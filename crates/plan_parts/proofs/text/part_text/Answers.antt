use Rattle.std.proofs.Common.{subst, List, inl}
use Rattle.std.proofs.lemmas.Result.{MatchResult-weaker, err_from_is_err_and}
use Rattle.plan_rows.proofs.PlanLemmas.{one_plan, no_fault_where_read}
use Rattle.plan_rows.specs.declared.row.Row.{Row}
use Rattle.plan_parts.specs.PartText.{IsPartText}
use Rattle.plan_parts.proofs.text.part_text.Goals as goal

pub returns-in_err-rows-clause-only : goal.returns-in_err-rows-clause-only
returns-in_err-rows-clause-only c = λ rows is.
    let p = err_from_is_err_and c.from_residual.result c.from_residual.ensures.1 in
    rw (p.1, p.2) (c.in_err-rows.ensures.only rows is)

pub returns-clause-found : goal.returns-clause-found
returns-clause-found c =
    MatchResult-weaker c.part_records.result c.part_records.ensures (λ text part. (_, part)) (λ e none. tt)

pub returns-clause-fault : goal.returns-clause-fault
returns-clause-fault c = MatchResult-weaker c.part_records.result c.part_records.ensures (λ text part. tt) (λ e none. inl none)

pub returns-clause-only : goal.returns-clause-only
returns-clause-only c = λ rows is.
    let same = rw c.as_slice.ensures at c.part_records.ensures in
    MatchResult-weaker c.part_records.result same (λ text part.
    subst (λ (l : List Row). IsPartText c.args.parts c.args.part c.args.bytes.now l text.items)
    (one_plan c.args.bytes.now _ rows c.in_ok-rows.ensures.found is) part) (λ e none. none)

pub returns-clause-refused : goal.returns-clause-refused
returns-clause-refused c = λ f is. absurd (no_fault_where_read c.args.bytes.now _ f c.in_ok-rows.ensures.found is)
