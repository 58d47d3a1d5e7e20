use Rattle.std.proofs.Common.{arith, ◌∙◌, sym, subst, Option}
use Rattle.stil_ast.specs.Faults.Found.{IsRefusal}
use Rattle.stil_ast.specs.declared.fault.StilFault.{StilFault}
use Rattle.cycle_comp.proofs.BuildLemmas.{rows_after, fault-rows, built-push}
use Rattle.cycle_comp.proofs.compiling.add_exec.Goals as goal

pub returns-in-Err-check_rows : goal.returns-in-Err-check_rows
returns-in-Err-check_rows c = λ before built.
    let written = c.in-Ok-exec_instrs.ensures.1 in
    subst (λ (o : Option StilFault). IsRefusal o c.in-Err-check_rows.refusal)
    (sym (fault-rows c.args.signals before c.args.exec c.args.building.now.measure c.exec_instrs.new.rows built.measure
    c.in-Ok.ensures.0 c.in-Ok-exec_instrs.ensures.0
    (rows_after c.args.signals _ before c.args.exec c.in-Ok-exec_instrs.instrs c.args.building.now.rows
    c.exec_instrs.new.rows built.rows written)))
    c.in-Err-check_rows.ensures

pub returns : goal.returns
returns c = λ before built.
    let written = c.in-Ok-exec_instrs.ensures.1 in
    let put = c.in_ok-put_exec.ensures in
    let small = c.in-Ok-check_rows.ensures.0 in (
      fault-rows c.args.signals before c.args.exec c.args.building.now.measure c.exec_instrs.new.rows built.measure
          c.in-Ok.ensures.0 c.in-Ok-exec_instrs.ensures.0
          (rows_after c.args.signals _ before c.args.exec c.in-Ok-exec_instrs.instrs c.args.building.now.rows
          c.exec_instrs.new.rows built.rows written)
          ∙ small,
      built-push c.args.signals _ c.in-Ok.measure before c.args.exec c.in-Ok-exec_instrs.instrs c.exec_instrs.new.rows
          c.args.building.now c.put_exec.new.building built (omega (arith, c.len-first.ensures, c.args.building.now.tables.ok)) c.in-Ok.ensures.1
          c.in-Ok-exec_instrs.ensures.0 written small c.in-Ok-check_rows.ensures.1 put.rows put.measure put.tables put.execs
          put.inside,
    )
