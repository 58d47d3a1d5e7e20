use Rattle.std.proofs.Common.{ℕ, List, ap, ◌∙◌, subst}
use Rattle.stil_ast.specs.Meaning.Flat.{done, cycle}
use Rattle.stil_ast.specs.Meaning.Flattening.{joined}
use Rattle.stil_ast.specs.Meaning.Resolved.{origin, resolved_assigns, setting_of}
use Rattle.stil_ast.specs.Faults.AssignmentFaults.{check_assigns}
use Rattle.flat_tree.specs.Origins.{body_of}
use Rattle.macro_expand.specs.Placing.{Writes}
use Rattle.macro_expand.specs.Scopes.{scope_in}
use Rattle.macro_expand.specs.Standings.{standing_in}
use Rattle.macro_expand.proofs.StepLemmas.{vector_steps}
use Rattle.macro_expand.proofs.assigning.walk_vector.Goals as goal

pub returns-in_ok-push_cycle-in-Ok : goal.returns-in_ok-push_cycle-in-Ok
returns-in_ok-push_cycle-in-Ok c = λ names named.
    let sc = scope_in names c.args.scope.now in
    let check = check_assigns sc (standing_in sc c.args.s.now) c.args.assigns.now in
    let assigns = resolved_assigns names c.args.assigns.now in
    let place = origin (body_of c.args.s.now.body) c.args.line in
    let before = c.args.walk.now in
    let wrote = c.walk_assignments.new.walk in
    vector_steps check (setting_of sc c.args.scope.now.scan_outs.now) assigns before wrote place
    (subst (λ (taken : List ℕ). Writes check assigns (record before { taken = taken }) wrote) c.clear.ensures
    (c.in-Ok.ensures names named))
    c.push_cycle.new.self
    (c.in_ok-push_cycle-in-Ok.ensures.made ∙ ap (λ n. joined wrote.out (cycle n place done)) c.mark-mark.ensures)
