use Rattle.std.proofs.Common.{ap, sym, ◌∙◌, Option, List, ℕ, false}
use Rattle.std.specs.Borrow.{Bor}
use Rattle.std.specs.Option.{option_copied}
use Rattle.stil_ast.specs.Meaning.Variables.{value_of_text, placed}
use Rattle.stil_ast.specs.declared.name.Quoted.{Quoted}
use Rattle.time_expr.specs.TimesOf.{times_of}
use Rattle.time_expr.specs.Picked.{variable_of, place_of, in_spec}
use Rattle.time_expr.specs.Choosing.{GoesBy, evaluated}
use Rattle.time_expr.proofs.ReachLemmas.{same-steps}
use Rattle.time_expr.proofs.walk.own_step.Goals as goal

pub returns-in-Some : goal.returns-in-Some
returns-in-Some c =
    same-steps c.args.variables.now c.args.vars.now (GoesBy c.args.variables.now c.args.vars.now)
    (evaluated false (variable_of c.args.here.now))
    (λ names. placed (in_spec c.args.here.now.spec.now c.in-Some.text.now.line) (times_of.value names c.as_slice.result.now))
    (place_of c.args.spot)
    (λ names.
    ap (λ (o : Option (Bor Quoted)). value_of_text (variable_of c.args.here.now).place (option_copied o) (times_of.value names)) c.in-Some.is
    ∙ ap (λ (t : List ℕ). placed (in_spec c.args.here.now.spec.now c.in-Some.text.now.line) (times_of.value names t))
    (sym c.as_slice.ensures))
    c.step_in.result (c.step_in.ensures (place_of c.args.spot))
