use Rattle.std.proofs.Common.{◌∙◌, sym, ap}
use Rattle.std.specs.Prelude.{codes}
use Rattle.tester_types.specs.Printing.{printed_name}
use Rattle.tool_inputs.specs.Refusals.{plan_status, plan_line, plan_fault_line}
use Rattle.tool_inputs.proofs.InputLemmas.{same_ends}
use Rattle.tool_inputs.proofs.refusal.put_plan.Goals as goal

pub returns-in-Shape : goal.returns-in-Shape
returns-in-Shape g c =
    same_ends _ _ _ _ _ _ _ _ _ (ap plan_status (sym c.in-Shape.is)) (ap plan_line (sym c.in-Shape.is)) c.put_bad_row.ensures

pub returns-in-UnknownName : goal.returns-in-UnknownName
returns-in-UnknownName g c =
    same_ends _ _ _ _ _ _ _ _ _ (ap plan_status (sym c.in-UnknownName.is)) (ap plan_line (sym c.in-UnknownName.is)) c.put_bad_row-in-UnknownName.ensures

pub returns-in-Twice : goal.returns-in-Twice
returns-in-Twice g c =
    same_ends _ _ _ _ _ _ _ _ _ (ap plan_status (sym c.in-Twice.is)) (ap plan_line (sym c.in-Twice.is)) c.put_bad_row-in-Twice.ensures

pub returns-in-OutOfRange : goal.returns-in-OutOfRange
returns-in-OutOfRange g c =
    same_ends _ _ _ _ _ _ _ _ _ (ap plan_status (sym c.in-OutOfRange.is)) (ap plan_line (sym c.in-OutOfRange.is)) c.put_bad_row-in-OutOfRange.ensures

pub returns-in-SkewOutside : goal.returns-in-SkewOutside
returns-in-SkewOutside g c =
    same_ends _ _ _ _ _ _ _ _ _ (ap plan_status (sym c.in-SkewOutside.is)) (ap plan_line (sym c.in-SkewOutside.is))
    c.put_bad_row-in-SkewOutside.ensures

pub returns-in-Unbound : goal.returns-in-Unbound
returns-in-Unbound g c =
    same_ends _ _ _ _ _ _ _ _ _ (ap plan_status (sym c.in-Unbound.is))
    (ap (λ name. plan_fault_line (codes "Unbound ") (printed_name name)) c.as_slice.ensures ∙ ap plan_line (sym c.in-Unbound.is))
    c.put_unbound.ensures
