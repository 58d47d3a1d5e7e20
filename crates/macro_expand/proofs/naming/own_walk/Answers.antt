use Rattle.std.proofs.Common.{ℕ, List, refl, ap, ◌∙◌, subst, length, replicate}
use Rattle.std.proofs.lemmas.List.{length-map}
use Rattle.stil_ast.specs.Faults.AssignmentFaults.{check_arguments}
use Rattle.stil_ast.specs.Meaning.Arguments.{Argument, no_argument}
use Rattle.stil_ast.specs.Meaning.Resolved.{is_out, resolved_assigns}
use Rattle.stil_ast.specs.Meaning.Signals.{Signal}
use Rattle.macro_expand.specs.Giving.{Gives}
use Rattle.macro_expand.specs.Scopes.{scope_in}
use Rattle.macro_expand.specs.Standings.{standing_in}
use Rattle.macro_expand.proofs.naming.own_walk.Goals as goal

pub returns-in-Ok : goal.returns-in-Ok
returns-in-Ok c = λ names args hashes named.
    let sc = scope_in names c.args.scope.now in
    let check = check_arguments sc (standing_in sc c.args.s.now) c.args.assigns.now in
    let same = c.in_ok-given.ensures
    ∙ ap (λ (n : ℕ). replicate n no_argument)
    (ap length named.outs ∙ length-map names.signals (λ (s : Signal). is_out s.direction)) in record {
      gives =
          subst
          (λ (given : List Argument). Gives check (resolved_assigns names c.args.assigns.now) args hashes c.args.count
          c.walk_arguments.new.count given c.walk_arguments.new.given)
          same (c.in-Ok.ensures names args hashes named);
      hashes_none = c.new-in-Ok.ensures;
      out_same = refl;
    }
