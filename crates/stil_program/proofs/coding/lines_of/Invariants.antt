use Rattle.std.proofs.Common.{◌≡◌, map, take}
use Rattle.stil_ast.specs.declared.executive.ExecDecl.{ExecDecl}
use Rattle.stil_program.proofs.coding.lines_of.Given as goal

abbrev pub invariant-loop-exec : goal.invariant-loop-exec
invariant-loop-exec l = l.lines.items ≡ map (λ (e : ExecDecl). e.line) (take l.exec-index l.execs)
