use Rattle.std.proofs.Common.{ℕ, List}
use Rattle.stil_ast.specs.Meaning.Arguments.{Argument}
use Rattle.stil_ast.specs.Meaning.Signals.{Names}
use Rattle.macro_expand.specs.Giving.{IsGiving}
use Rattle.macro_expand.specs.Scopes.{scope_in, IsNamed}
use Rattle.macro_expand.specs.Standings.{standing_in}
use Rattle.macro_expand.proofs.giving.walk_arguments.Given as goal

abbrev pub invariant-loop-parts : goal.invariant-loop-parts
invariant-loop-parts l = (names : Names) (args : List Argument) (hashes : List ℕ) → IsNamed names l.scope
    → IsGiving (scope_in names l.scope) (standing_in (scope_in names l.scope) l.s) args hashes l.fn.assigns l.fn.count l.fn.given
    l.parts-iterator l.count l.given
