use Rattle.std.proofs.Common.{Bool, sym, ap, subst, ◌∙◌, ◌&&◌}
use Rattle.std.specs.Prelude.{◌↔◌, IsTrue}
use Rattle.std.specs.Str.{bytes_eq}
use Rattle.std.proofs.lemmas.Bool.{false≢true}
use Rattle.log_parts.specs.Step.{IsByPlan}
use Rattle.log_parts.proofs.SaidLemmas.{plan_so, word_plan}
use Rattle.log_parts.proofs.said.is_by_plan.Goals as goal

pub returns-then-eq : goal.returns-then-eq
returns-then-eq c =
    subst (λ (b : Bool). IsTrue (b && c.is_counted.result) ↔ IsByPlan c.args.line.now)
    (sym (ap (bytes_eq c.in-Some.word.now) c.as_slice.ensures) ∙ sym c.eq.ensures ∙ c.if-eq.true)
    (plan_so c.args.line.now c.in-Some.front.now c.in-Some.word.now c.is_counted.result c.in-Some.ensures c.is_counted.ensures)

pub returns-else-eq : goal.returns-else-eq
returns-else-eq c = (
  λ h. absurd (false≢true (sym c.if-eq.false ∙ h)),
  λ by. absurd (word_plan c.args.line.now c.in-Some.front.now c.in-Some.word.now c.in-Some.ensures
      (sym (ap (bytes_eq c.in-Some.word.now) c.as_slice.ensures) ∙ sym c.eq.ensures ∙ c.if-eq.false) by),
)
