use Rattle.std.proofs.Common.{◌≤◌, ◌<◌, arith, ap, subst, length, sym, ◌∙◌, ◌≡◌, get_or, List}
use Rattle.packed_code.specs.Program.{Exec, Program}
use Rattle.packed_code.specs.Conditions.{IsExec}
use Rattle.packed_code.proofs.Lists.{each_at}
use Rattle.packed_code.proofs.code.Code.instrs.Goals as goal

pub overflow_cast-result : goal.overflow_cast-result
overflow_cast-result c =
    let exec = c.index-as_slice-exec.result in
    let lt = subst (λ (p : Program). c.args.exec < length p.execs) (sym c.self.view_is) c.requires in
    let fits = each_at (IsExec (length c.self.inside.signals) c.self.inside.tables c.self.inside.rows) c.self.inside.execs c.args.exec exec c.self.invariant.execs lt in
    let is : exec ≡ get_or c.self.inside.execs c.args.exec exec = c.index-as_slice-exec.is ∙ ap (λ (xs : List Exec). get_or xs c.args.exec exec) c.as_slice.ensures in
    let few : length exec.instrs ≤ 4194305 = subst (λ (e : Exec). length e.instrs ≤ 4194305) (sym is) fits.few_instrs in
    omega (arith, ap length c.instrs.ensures)
