use Rattle.std.proofs.Common.{◌≡◌, ◌<◌, sym, subst, length}
use Rattle.packed_code.specs.Program.{Program}
use Rattle.packed_code.specs.Cycles.{page_of}
use Rattle.packed_code.specs.Conditions.{IsProgram}
use Rattle.pattern_mem.proofs.CursorLemmas.{begins, some_instr}
use Rattle.pattern_mem.proofs.cursor.at.Goals as goal

pub page_of-requires-clause-place : goal.page_of-requires-clause-place
page_of-requires-clause-place c =
    some_instr c.code-code.result.now c.args.exec c.signals-conditions.ensures.conditions
    (subst (λ (p : Program). c.args.exec < length p.execs) (sym c.code-code.ensures) c.requires)

pub returns-clause-of : goal.returns-clause-of
returns-clause-of c =
    begins c.args.mem.now.code c.args.exec c.page_of.result c.new-2.result c.in_ok-window.window
    (subst (λ (p : Program). IsProgram p) c.code-code.ensures c.signals-conditions.ensures.conditions) c.requires
    (subst (λ (p : Program). c.page_of.result ≡ page_of p c.args.exec 0) c.code-code.ensures c.page_of.ensures.number)
    c.new-2.ensures.on c.new-2.ensures.coming c.in_ok-window.ensures
