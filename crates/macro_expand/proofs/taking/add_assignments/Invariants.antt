use Rattle.std.proofs.Common.{◌≡◌, ◌++◌}
use Rattle.stil_ast.specs.Meaning.Dealing.{takers}
use Rattle.stil_ast.specs.Meaning.Resolved.{resolved_assigns}
use Rattle.stil_ast.specs.Meaning.Signals.{Names}
use Rattle.macro_expand.specs.Scopes.{IsNamed}
use Rattle.macro_expand.proofs.taking.add_assignments.Given as goal

abbrev pub invariant-loop-parts : goal.invariant-loop-parts
invariant-loop-parts l = (names : Names) → IsNamed names l.scope
    → l.found.items ++ takers (resolved_assigns names l.parts-iterator) ≡ l.fn.found.items ++ takers (resolved_assigns names l.fn.assigns)
