use Rattle.std.proofs.Common.{◌∙◌, sym, refl, subst}
use Rattle.stil_ast.specs.Data.Assignments.{assignment_said}
use Rattle.stil_ast.specs.Faults.AssignmentFaults.{check_argument}
use Rattle.macro_expand.specs.Giving.{at_count}
use Rattle.macro_expand.specs.Refusing.{IsAt, Trouble}
use Rattle.macro_expand.specs.Scopes.{scope_in}
use Rattle.macro_expand.specs.Standings.{standing_in}
use Rattle.macro_expand.proofs.GiveLemmas.{argument_form, argument_short, argument_given}
use Rattle.macro_expand.proofs.giving.walk_argument.Goals as goal

pub returns-then-not-are_characters : goal.returns-then-not-are_characters
returns-then-not-are_characters c = λ names args hashes named.
    let sc = scope_in names c.args.scope.now in
    let s = standing_in sc c.args.s.now in
    let d = assignment_said c.args.parts.now in
    let w = at_count args hashes c.args.count.now in
    let known = c.in-Ok.ensures names named.signals in
    subst (λ (t : Trouble). IsAt sc.titles (check_argument sc s d w) t) (sym c.trouble-then-not-are_characters.ensures)
    (argument_form sc s d c.args.parts.now.runs.now c.as_slice-signals.result.now w refl known.0 (c.as_slice-signals.ensures ∙ known.1)
    (sym c.if-not-may_walk.ensures) (sym c.if-not-are_characters.ensures))

pub returns-then-not-argument_fits : goal.returns-then-not-argument_fits
returns-then-not-argument_fits c = λ names args hashes named.
    let sc = scope_in names c.args.scope.now in
    let s = standing_in sc c.args.s.now in
    let d = assignment_said c.args.parts.now in
    let runs = c.args.parts.now.runs.now in
    let w = at_count args hashes c.args.count.now in
    let known = c.in-Ok.ensures names named.signals in
    subst (λ (t : Trouble). IsAt sc.titles (check_argument sc s d w) t) (sym c.trouble-then-not-argument_fits.ensures)
    (argument_short sc s d runs c.as_slice-signals.result.now w refl known.0 (c.as_slice-signals.ensures ∙ known.1)
    (sym c.if-not-may_walk.ensures) (sym c.if-not-are_characters.ensures) (sym c.if-not-argument_fits.ensures))

pub returns-in_ok-give-in-Ok : goal.returns-in_ok-give-in-Ok
returns-in_ok-give-in-Ok c = λ names args hashes named.
    let sc = scope_in names c.args.scope.now in
    let s = standing_in sc c.args.s.now in
    let d = assignment_said c.args.parts.now in
    let runs = c.args.parts.now.runs.now in
    let known = c.in-Ok.ensures names named.signals in
    argument_given sc s d runs c.as_slice-signals.result.now (at_count args hashes c.args.count.now) refl known.0 (c.as_slice-signals.ensures ∙ known.1)
    (sym c.if-not-may_walk.ensures) (sym c.if-not-are_characters.ensures) (sym c.if-not-argument_fits.ensures)
    c.args.given.now c.give.new.self
    c.in_ok-give-in-Ok.ensures.dealt
