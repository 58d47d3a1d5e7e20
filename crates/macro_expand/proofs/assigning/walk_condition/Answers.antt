use Rattle.std.proofs.Common.{ℕ, List, subst}
use Rattle.stil_ast.specs.Meaning.Resolved.{origin, resolved_assigns}
use Rattle.stil_ast.specs.Faults.AssignmentFaults.{check_assigns}
use Rattle.flat_tree.specs.Origins.{body_of}
use Rattle.macro_expand.specs.Scopes.{titles_in, scope_in}
use Rattle.macro_expand.specs.Standings.{standing_in}
use Rattle.macro_expand.specs.Stepping.{WritesOr}
use Rattle.macro_expand.proofs.StepLemmas.{condition_steps_or}
use Rattle.macro_expand.proofs.assigning.walk_condition.Goals as goal

pub returns : goal.returns
returns c = λ names named.
    let sc = scope_in names c.args.scope.now in
    let titles = titles_in c.args.scope.now.titles in
    let check = check_assigns sc (standing_in sc c.args.s.now) c.args.assigns.now in
    let assigns = resolved_assigns names c.args.assigns.now in
    let before = c.args.walk.now in
    condition_steps_or titles check assigns before c.walk_assignments.new.walk (origin (body_of c.args.s.now.body) c.args.line)
    c.walk_assignments.result
    (subst (λ (taken : List ℕ). WritesOr titles check assigns (record before { taken = taken }) c.walk_assignments.new.walk
    c.walk_assignments.result) c.clear.ensures (c.walk_assignments.ensures names named))
