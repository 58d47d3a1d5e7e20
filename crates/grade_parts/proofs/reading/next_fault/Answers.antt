use Rattle.std.proofs.Common.{◌∙◌, sym, refl}
use Rattle.grade_parts.specs.Step.{stuck_of}
use Rattle.grade_parts.proofs.TurnLemmas.{lacks_first, lacks_told}
use Rattle.grade_parts.proofs.reading.next_fault.Goals as goal

pub returns-in_default-told_fault : goal.returns-in_default-told_fault
returns-in_default-told_fault c = (
  refl,
  lacks_first c.args.told.now c.args.text.now c.in-Some.line.now c.in-Some.ensures
      (λ stuck tells next. c.in_default-told_fault.ensures stuck tells),
)

pub returns-then-not-comes_next : goal.returns-then-not-comes_next
returns-then-not-comes_next c = (
  refl,
  lacks_told c.args.told.now c.args.text.now c.in-Some.line.now
      (stuck_of c.in-Some-told_fault.net.now c.in-Some-told_fault.value) c.in-Some.ensures c.in-Some-told_fault.ensures
      (sym c.comes_next.ensures ∙ c.if-not-comes_next.true),
)
