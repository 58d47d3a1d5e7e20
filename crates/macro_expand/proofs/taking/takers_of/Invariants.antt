use Rattle.std.proofs.Common.{◌≡◌, ◌++◌, drop}
use Rattle.stil_ast.specs.Data.Bodies.{written_of}
use Rattle.stil_ast.specs.Data.Places.{Body}
use Rattle.stil_ast.specs.Meaning.Resolved.{resolved}
use Rattle.stil_ast.specs.Meaning.Shift.{taking}
use Rattle.stil_ast.specs.Meaning.Signals.{Names}
use Rattle.macro_expand.specs.Scopes.{scope_in, IsNamed}
use Rattle.macro_expand.proofs.taking.takers_of.Given as goal

abbrev pub invariant-loop-stmt : goal.invariant-loop-stmt
invariant-loop-stmt l = (names : Names) (kind : Body) → IsNamed names l.scope
    → l.found.items ++ taking (resolved (scope_in names l.scope) kind (written_of (drop l.stmt-index l.stmt-items)))
    ≡ taking (resolved (scope_in names l.scope) kind l.fn.body)
