use Rattle.std.proofs.Common.{[], ◌∷◌, ◌∙◌, sym, refl}
use Rattle.stil_ast.specs.Data.Assignments.{assignment_said}
use Rattle.stil_ast.specs.Meaning.Resolved.{resolved_assign}
use Rattle.stil_ast.specs.Faults.AssignmentFaults.{check_assign}
use Rattle.macro_expand.specs.Scopes.{scope_in}
use Rattle.macro_expand.specs.Standings.{standing_in}
use Rattle.macro_expand.proofs.AssignLemmas.{assigned, writes_noted}
use Rattle.macro_expand.proofs.assigning.walk_assignment.Goals as goal

pub returns-else-not-may_walk : goal.returns-else-not-may_walk
returns-else-not-may_walk c = λ names named.
    let sc = scope_in names c.args.scope.now in
    let known = c.in-Ok.ensures names named.signals in
    let s = standing_in sc c.args.s.now in
    let said = assignment_said c.args.parts.now in
    let before = c.args.walk.now in
    let references = c.resolved_again.new.references in
    writes_noted sc.titles (check_assign sc s said) (resolved_assign names said ∷ []) before c.place.new.walk references c.place.result
    (assigned sc s said c.args.parts.now.runs.now c.as_slice-signals.result.now (record before { references = references })
    c.place.new.walk c.place.result refl (known.0, c.as_slice-signals.ensures ∙ known.1) (sym c.if-not-may_walk.ensures)
    (c.place.ensures sc))
