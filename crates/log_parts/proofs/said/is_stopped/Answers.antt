use Rattle.std.proofs.Common.{sym, inl, inr, ◌∙◌}
use Rattle.std.proofs.lemmas.Bool.{false≢true}
use Rattle.log_parts.proofs.said.is_stopped.Goals as goal

pub returns-then-is_by_desk : goal.returns-then-is_by_desk
returns-then-is_by_desk c = (λ h. inl (c.is_by_desk.ensures.0 h), λ _. c.if-is_by_desk.true)

pub returns-else-is_by_desk : goal.returns-else-is_by_desk
returns-else-is_by_desk c = (
  λ h. inr (c.is_by_plan.ensures.0 h),
  λ stopped. elim stopped [
    | inl by ↦ absurd (false≢true (sym c.if-is_by_desk.false ∙ c.is_by_desk.ensures.1 by))
    | inr by ↦ c.is_by_plan.ensures.1 by
  ],
)
