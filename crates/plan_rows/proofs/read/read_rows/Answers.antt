use Rattle.std.proofs.Common.{sym, ◌∙◌, inl, inr, subst}
use Rattle.std.proofs.lemmas.Result.{err_from_is_err_and}
use Rattle.plan_rows.specs.Rows.{AreKept}
use Rattle.plan_rows.proofs.PlanLemmas.{one_plan, one_fault, no_fault_where_read}
use Rattle.plan_rows.proofs.KeptLemmas.{kept_where_read}
use Rattle.plan_rows.proofs.read.read_rows.Goals as goal

pub returns-in_err-plan-clause-only : goal.returns-in_err-plan-clause-only
returns-in_err-plan-clause-only c = λ rows is.
    let p = err_from_is_err_and c.from_residual.result c.from_residual.ensures.1 in
    rw (p.1, p.2) (elim c.in_err-plan.ensures [
      | inl none ↦ none
      | inr f ↦ absurd (no_fault_where_read c.args.bytes.now rows _ is f)
    ])

pub returns-in_err-plan-clause-refused : goal.returns-in_err-plan-clause-refused
returns-in_err-plan-clause-refused c = λ f is.
    let p = err_from_is_err_and c.from_residual.result c.from_residual.ensures.1 in
    rw (p.1, p.2) (elim c.in_err-plan.ensures [
      | inl none ↦ inl none
      | inr g ↦ inr (one_fault c.args.bytes.now _ f g is)
    ])

pub returns-clause-kept : goal.returns-clause-kept
returns-clause-kept c = let h = c.from_vec.ensures in subst AreKept (sym h) (kept_where_read c.args.bytes.now _ c.in_ok-plan.ensures.0)

pub returns-clause-only : goal.returns-clause-only
returns-clause-only c = λ rows is. c.from_vec.ensures ∙ one_plan c.args.bytes.now _ rows c.in_ok-plan.ensures.0 is

pub returns-clause-refused : goal.returns-clause-refused
returns-clause-refused c = λ f is. no_fault_where_read c.args.bytes.now _ f c.in_ok-plan.ensures.0 is
