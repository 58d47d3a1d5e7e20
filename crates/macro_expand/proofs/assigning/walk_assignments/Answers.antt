use Rattle.std.proofs.Common.{List, subst}
use Rattle.stil_ast.specs.Data.Assignments.{assignment_said}
use Rattle.stil_ast.specs.declared.body.Assignment.{Assignment}
use Rattle.macro_expand.specs.Scopes.{scope_in}
use Rattle.macro_expand.specs.Standings.{standing_in}
use Rattle.macro_expand.specs.Stepping.{IsAssigning}
use Rattle.macro_expand.proofs.AssignLemmas.{assigning_step}
use Rattle.macro_expand.proofs.assigning.walk_assignments.Goals as goal

pub loop-parts-preserved : goal.loop-parts-preserved
loop-parts-preserved c = λ names named.
    let sc = scope_in names c.args.scope.now in
    let s = standing_in sc c.args.s.now in
    assigning_step sc s c.args.assigns.now c.args.walk.now (assignment_said c.in-Some.parts) c.next.new.self
    c.loop-parts.walk c.walk_assignment.new.walk
    (subst (λ (left : List Assignment). IsAssigning sc s c.args.assigns.now c.args.walk.now left c.loop-parts.walk)
    c.in-Some.ensures.steps.first (c.loop-parts.invariant names named))
    (c.in-Ok.ensures names named)
