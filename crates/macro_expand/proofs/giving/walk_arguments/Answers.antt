use Rattle.std.proofs.Common.{List, subst}
use Rattle.stil_ast.specs.Data.Assignments.{assignment_said}
use Rattle.stil_ast.specs.declared.body.Assignment.{Assignment}
use Rattle.macro_expand.specs.Giving.{IsGiving}
use Rattle.macro_expand.specs.Scopes.{scope_in}
use Rattle.macro_expand.specs.Standings.{standing_in}
use Rattle.macro_expand.proofs.GiveLemmas.{giving_step, giving_refused, giving_ends}
use Rattle.macro_expand.proofs.giving.walk_arguments.Goals as goal

pub loop-parts-preserved : goal.loop-parts-preserved
loop-parts-preserved c = λ names args hashes named.
    let sc = scope_in names c.args.scope.now in
    let s = standing_in sc c.args.s.now in
    giving_step sc s args hashes c.args.assigns.now c.args.count.now c.args.given.now (assignment_said c.in-Some.parts)
    c.next.new.self c.loop-parts.count c.walk_argument.new.count c.loop-parts.given c.walk_argument.new.given
    (subst (λ (left : List Assignment). IsGiving sc s args hashes c.args.assigns.now c.args.count.now c.args.given.now left c.loop-parts.count c.loop-parts.given)
    c.in-Some.ensures.steps.first (c.loop-parts.invariant names args hashes named))
    (c.in-Ok.ensures names args hashes named)

pub returns-in-Err : goal.returns-in-Err
returns-in-Err c = λ names args hashes named.
    let sc = scope_in names c.args.scope.now in
    let s = standing_in sc c.args.s.now in
    giving_refused sc s args hashes c.args.assigns.now c.args.count.now c.args.given.now sc.titles
    (assignment_said c.in-Some.parts) c.next.new.self c.loop-parts.count c.loop-parts.given c.in-Err.trouble
    (subst (λ (left : List Assignment). IsGiving sc s args hashes c.args.assigns.now c.args.count.now c.args.given.now left c.loop-parts.count c.loop-parts.given)
    c.in-Some.ensures.steps.first (c.loop-parts.invariant names args hashes named))
    (c.in-Err.ensures names args hashes named)

pub returns : goal.returns
returns c = λ names args hashes named.
    let sc = scope_in names c.args.scope.now in
    let s = standing_in sc c.args.s.now in
    giving_ends sc s args hashes c.args.assigns.now c.args.count.now c.args.given.now c.loop-parts.count c.loop-parts.given
    (subst (λ (left : List Assignment). IsGiving sc s args hashes c.args.assigns.now c.args.count.now c.args.given.now left c.loop-parts.count c.loop-parts.given)
    c.in-None.ensures.steps.first.0 (c.loop-parts.invariant names args hashes named))
