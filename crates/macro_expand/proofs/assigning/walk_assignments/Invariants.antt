use Rattle.stil_ast.specs.Meaning.Signals.{Names}
use Rattle.macro_expand.specs.Scopes.{scope_in, IsNamed}
use Rattle.macro_expand.specs.Standings.{standing_in}
use Rattle.macro_expand.specs.Stepping.{IsAssigning}
use Rattle.macro_expand.proofs.assigning.walk_assignments.Given as goal

abbrev pub invariant-loop-parts : goal.invariant-loop-parts
invariant-loop-parts l = (names : Names) → IsNamed names l.scope
    → IsAssigning (scope_in names l.scope) (standing_in (scope_in names l.scope) l.s) l.fn.assigns l.fn.walk l.parts-iterator l.walk
