use Rattle.std.proofs.Common.{ℕ, subst, sym}
use Rattle.packed_code.specs.declared.course.Course.{Course}
use Rattle.packed_code.specs.Course.{Steps, IsOn}
use Rattle.pattern_mem.specs.Cursor.{instrs_of}
use Rattle.pattern_mem.proofs.CursorLemmas.{stands_at, placed_on}
use Rattle.pattern_mem.proofs.cursor.Cursor.step.Goals as goal

pub step-requires : goal.step-requires
step-requires g c =
    let code = c.args.mem.now.code in (
      instrs_of code c.args.self.now.exec,
      stands_at code c.args.self.now c.instr.new.self c.in-Ok.instr c.instr.ensures.placed c.instr.ensures.same c.instr.ensures.course c.in-Ok.ensures.instr,
    )

pub returns-in-Ok-clause-placed : goal.returns-in-Ok-clause-placed
returns-in-Ok-clause-placed g c =
    let code = c.args.mem.now.code in
    let instrs = instrs_of code c.args.self.now.exec in
    let stands = stands_at code c.args.self.now c.instr.new.self c.in-Ok.instr c.instr.ensures.placed c.instr.ensures.same c.instr.ensures.course c.in-Ok.ensures.instr in
    placed_on code c.instr.new.self c.step.new.self c.instr.ensures.placed
    (subst (λ (e : ℕ). IsOn (instrs_of code e) c.step.new.self) (sym c.instr.ensures.same.exec) (c.step.ensures instrs stands).on)

pub returns-in-Ok-clause-steps : goal.returns-in-Ok-clause-steps
returns-in-Ok-clause-steps g c =
    let code = c.args.mem.now.code in
    let instrs = instrs_of code c.args.self.now.exec in
    let stands = stands_at code c.args.self.now c.instr.new.self c.in-Ok.instr c.instr.ensures.placed c.instr.ensures.same c.instr.ensures.course c.in-Ok.ensures.instr in
    subst (λ (course : Course). Steps instrs course c.step.result c.step.new.self) c.instr.ensures.course (c.step.ensures instrs stands)
