use Rattle.std.proofs.Common.{◌∙◌, sym, ap}
use Rattle.std.specs.Prelude.{codes}
use Rattle.tester_types.specs.Printing.{printed_name}
use Rattle.tool_inputs.specs.Refusals.{net_status, net_line, net_fault_line}
use Rattle.tool_inputs.proofs.InputLemmas.{same_ends}
use Rattle.tool_inputs.proofs.refusal.put_net.Goals as goal

pub returns-in-Line : goal.returns-in-Line
returns-in-Line g c =
    same_ends _ _ _ _ _ _ _ _ _ (ap net_status (sym c.in-Line.is)) (ap (net_line c.args.file.now) (sym c.in-Line.is))
    c.put_bad_line.ensures

pub returns-in-OutOfRange : goal.returns-in-OutOfRange
returns-in-OutOfRange g c =
    same_ends _ _ _ _ _ _ _ _ _ (ap net_status (sym c.in-OutOfRange.is)) (ap (net_line c.args.file.now) (sym c.in-OutOfRange.is))
    c.put_too_many.ensures

pub returns-in-Arity : goal.returns-in-Arity
returns-in-Arity g c =
    same_ends _ _ _ _ _ _ _ _ _ (ap net_status (sym c.in-Arity.is)) (ap (λ name. net_fault_line c.args.file.now (codes " Arity ") (printed_name name)) c.as_slice.ensures
    ∙ ap (net_line c.args.file.now) (sym c.in-Arity.is))
    c.put_bad_net.ensures

pub returns-in-Twice : goal.returns-in-Twice
returns-in-Twice g c =
    same_ends _ _ _ _ _ _ _ _ _ (ap net_status (sym c.in-Twice.is)) (ap (λ name. net_fault_line c.args.file.now (codes " Twice ") (printed_name name)) c.as_slice-in-Twice.ensures
    ∙ ap (net_line c.args.file.now) (sym c.in-Twice.is))
    c.put_bad_net-in-Twice.ensures

pub returns-in-Missing : goal.returns-in-Missing
returns-in-Missing g c =
    same_ends _ _ _ _ _ _ _ _ _ (ap net_status (sym c.in-Missing.is)) (ap (λ name. net_fault_line c.args.file.now (codes " Missing ") (printed_name name)) c.as_slice-in-Missing.ensures
    ∙ ap (net_line c.args.file.now) (sym c.in-Missing.is))
    c.put_bad_net-in-Missing.ensures

pub returns-in-Loop : goal.returns-in-Loop
returns-in-Loop g c =
    same_ends _ _ _ _ _ _ _ _ _ (ap net_status (sym c.in-Loop.is)) (ap (λ name. net_fault_line c.args.file.now (codes " Loop ") (printed_name name)) c.as_slice-in-Loop.ensures
    ∙ ap (net_line c.args.file.now) (sym c.in-Loop.is))
    c.put_bad_net-in-Loop.ensures
